-- Laws of columns: a column at n is the function of node n.
use Prim.Native.Nat.{ℕ, zero, suc, ◌+◌, ◌<◌}
use mathlib.Core.Path.{◌≡◌, ◌∙◌}
use native.Mathlib.Omega.{arith}
use lib.ListN.{get_or}
use Rattle.guide.specs.workers.Columns.{values}

value_from : (f : ℕ → ℕ) (i k n : ℕ) → n < k → get_or (values f i k) n 0 ≡ f (n + i)
value_from f i zero n h = absurd (omega arith)
value_from f i (suc k) zero h =
    let e : 0 + i ≡ i = omega arith in
    rw e
value_from f i (suc k) (suc n) h =
    let e : suc n + i ≡ n + suc i = omega arith in
    rw e (value_from f (suc i) k n (omega arith))

pub value : (f : ℕ → ℕ) (k n : ℕ) → n < k → get_or (values f 0 k) n 0 ≡ f n
value f k n h =
    let e : n + 0 ≡ n = omega arith in
    value_from f 0 k n h ∙ rw e
