-- Laws of `same`: it is equality, and how it goes on from byte to byte.
use Rattle.std.proofs.Common.{◌≡◌, ℕ, Bool, true, false, eqb, List, [], ◌∷◌, sym, refl, ap₂, true≢false, eq-eqb, eqb-true}
use Rattle.plain.specs.Plain.{same}

pub same_refl : (s : List ℕ) → same s s ≡ true
unfolding same
same_refl [] = refl
same_refl (x ∷ xs) = rw (eq-eqb x x refl) (same_refl xs)

both : (x y : ℕ) (xs ys : List ℕ) (b : Bool) → eqb x y ≡ b → same (x ∷ xs) (y ∷ ys) ≡ true → (same xs ys ≡ true → xs ≡ ys) → x ∷ xs ≡ y ∷ ys
unfolding same
both x y xs ys true e h k = ap₂ ◌∷◌ (eqb-true x y e) (k (rw e at h))
both x y xs ys false e h k = absurd (true≢false (sym (rw e at h)))

-- all bytes are compared: `same` says true of equal rows only
pub same_true : (s t : List ℕ) → same s t ≡ true → s ≡ t
unfolding same
same_true [] [] h = refl
same_true [] (y ∷ ys) h = absurd (true≢false (sym h))
same_true (x ∷ xs) [] h = absurd (true≢false (sym h))
same_true (x ∷ xs) (y ∷ ys) h = both x y xs ys (eqb x y) refl h (same_true xs ys)
