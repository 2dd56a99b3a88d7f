-- Laws of an option that stands for a number of which 0 says "none".
use Prim.Native.Nat.{ℕ, zero, suc}
use mathlib.Core.Path.{◌≡◌, refl, ap}
use native.Mathlib.Omega.{arith}
use Rattle.std.specs.Prelude.{Some, None}
use Rattle.guide.specs.Options.{unless_0}

pub some_unless_0 : (n x : ℕ) → n ≡ x → (n ≡ 0 → ⊥) → Some n ≡ unless_0 x
some_unless_0 zero x e h = absurd (h refl)
some_unless_0 (suc n) x e h = ap unless_0 e

pub none_unless_0 : (x : ℕ) → 0 ≡ x → None ≡ unless_0 x
none_unless_0 x e = ap unless_0 e

-- what a told option says
pub told_unless_0 : (n x : ℕ) → Some n ≡ unless_0 x → (n ≡ x) × (n ≡ 0 → ⊥)
told_unless_0 n zero e = absurd cc
told_unless_0 n (suc x) e =
    let k : n ≡ suc x = cc in
    (k, λ z. omega arith)

pub untold_unless_0 : (x : ℕ) → None ≡ unless_0 x → 0 ≡ x
untold_unless_0 zero e = refl
untold_unless_0 (suc x) e = absurd cc
