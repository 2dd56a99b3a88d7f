-- `bytewise::eights::eight_at` meets its contract: fewer than eight bytes stand there.
use mathlib.Core.Path.{sym}
use native.Mathlib.Omega.{arith}
use Rattle.bytewise.proofs.Bytewise.{eight-short}
use Rattle.bytewise.proofs.eights.eight_at.Goals as goal

pub returns-else-at-saturating_sub : goal.returns-else-at-saturating_sub
returns-else-at-saturating_sub c = sym (eight-short _ _ (omega arith))
