-- Laws of an i64's sign and magnitude, as the machine has them.
use Prim.Native.Nat.{ℕ, zero, suc, ◌^◌, ◌<◌}
use mathlib.Core.Path.{◌≡◌, ap, ◌∙◌}
use native.Mathlib.Omega.{arith}
use lib.Dec.{lit<}
use lib.IntN.{ℤ, pos, neg_ℤ, ◌-ℤ◌, +ℤ_idl}
use mir.Syntax.{w64}
use mir.Val.{SFits, to_z}
use mir.Facts.{to_z_pos}

-- values below 2 ^ 63 fit with either sign
pub minus-fits : (v : ℕ) → v < 2 ^ 63 → SFits w64 (neg_ℤ (pos v))
minus-fits zero h = record { sfits = lit< tt }
minus-fits (suc n) h = record { sfits = omega arith }

pub minus_is : (v : ℕ) → v < 2 ^ 63 → pos 0 -ℤ to_z w64 v ≡ neg_ℤ (pos v)
minus_is v h = ap (λ (z : ℤ). pos 0 -ℤ z) (to_z_pos w64 {n = v} (omega arith)) ∙ +ℤ_idl (neg_ℤ (pos v))
