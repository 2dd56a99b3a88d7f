-- The law of the test over all numbers below one.
use Prim.Native.Nat.{ℕ, zero, suc, ◌<◌}
use mathlib.Core.Path.{◌≡◌, refl}
use mathlib.Core.Bool.{Bool, true, false}
use native.Mathlib.Omega.{arith}
use lib.Dec.{T, eqb}
use mir.Facts.{and_yes}
use borrow.Author.Tests.{eqb-true, eqb-false}
use Rattle.bytewise.specs.Every.{every}

-- what holds of every number below k holds of n
pub every-at : (test : ℕ → Bool) (k n : ℕ) → T (every test k) → n < k → T (test n)
unfolding every
every-at test zero n h l = absurd (omega arith)
every-at test (suc k) n h l = go (eqb n k) refl (every-at test k n (and_yes (test k) (every test k) h).1)
  where
    go : (b : Bool) → eqb n k ≡ b → (n < k → T (test n)) → T (test n)
    go true e ih =
        let q : n ≡ k = eqb-true n k e in
        rw q (and_yes (test k) (every test k) h).0
    go false e ih =
        let q = eqb-false n k e in
        ih (omega arith)
