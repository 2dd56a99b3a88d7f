-- Laws of the tables: what their last arm gives, where no page, element, row or code is left.
use Prim.Native.Nat.{ℕ, zero, suc, ◌≤◌}
use mathlib.Core.Path.{◌≡◌}
use mathlib.Core.List.{List}
use native.Mathlib.Omega.{arith}
use lib.ListN.{length, get_or, get_or-eq_default}

-- n is none of the numbers below k, as the last arm of a match has it
abbrev pub NoneBelow : ℕ → ℕ → Type 0
NoneBelow n zero = Unit {0}
NoneBelow n (suc k) = NoneBelow n k × (n ≡ k → ⊥)

pub past : (n k : ℕ) → NoneBelow n k → k ≤ n
past n zero h = omega arith
past n (suc k) h =
    let l = past n k h.0 in
    let z = h.1 in
    omega arith

pub past_all : {A : Type 0} (l : List A) (z : A) (n : ℕ) → NoneBelow n (length l) → get_or l n z ≡ z
past_all l z n h = get_or-eq_default l z (past n (length l) h)
