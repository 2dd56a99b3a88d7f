-- `page::coded::front_word` meets its contract: the lowest bytes of eight.
use Prim.Native.Nat.{◌-◌}
use native.Mathlib.Omega.{arith}
use lib.Bits.{and_le_r}
use Rattle.page.proofs.coded.KeyWords.{front-key}
use Rattle.page.proofs.coded.front_word.Goals as goal

pub overflow_add-result : goal.overflow_add-result
overflow_add-result c = omega (arith, and_le_r c.eight_at.result (c.above-top.result - 1), c.above-top.ensures.2)

pub returns : goal.returns
returns c =
    front-key _ _ _ c.requires.0 c.requires.1 (λ k. omega (arith, c.shared_slice_known-1.given k)) _ _ c.eight_at.ensures
    c.above-top.ensures.0
