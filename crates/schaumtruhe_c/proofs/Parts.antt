-- The part of a delivery without its release marks, as `schaumtruhe_plain` comes to it.
use Prim.Native.Nat.{ℕ, ◌+◌, min}
use mathlib.Core.Path.{◌≡◌, refl, sym, ◌∙◌, ap}
use mathlib.Core.List.{List, [], ◌∷◌}
use lib.ListN.{length}
use borrow.Author.Tests.{eq-eqb, ne_eqb}
use Rattle.cut.specs.declared.service.Syntax.{Syntax}
use Rattle.cut.specs.Admission.{admission_of}
use Rattle.cut.specs.Used.{characters_of}
use Rattle.plain.specs.Plain.{decoded, copied}
use Rattle.plain.proofs.Decoding.{decoded_limited}
use Rattle.schaumtruhe_c.specs.Answers.{plain_at}

copied_none : (row : List ℕ) → row ≡ copied [] row
unfolding copied
copied_none [] = refl
copied_none (x ∷ xs) = refl

module _ (y z : Syntax) (d : List ℕ) (a n k : ℕ) (used : z ≡ characters_of y d) (asked : k ≡ admission_of z d) where
  none : (k ≡ 0 → ⊥) → plain_at (characters_of y d) d a n ≡ []
  unfolding plain_at
  none h =
      let e : admission_of (characters_of y d) d ≡ k = rw (← used, ← asked) in
      rw (ne_eqb _ _ (λ g. h (sym e ∙ g)))

  pub plain_refused
      : (out : List ℕ) → (k ≡ 0 → ⊥) → (0 ≡ length (plain_at (characters_of y d) d a n)) × (out ≡ copied (plain_at (characters_of y d) d a n) out)
  plain_refused out h = (sym (ap length (none h)), copied_none out ∙ ap (λ (s : List ℕ). copied s out) (sym (none h)))

  given : (e : ℕ) → k ≡ 0 → e ≡ min (a + n) (length d) → decoded z a e d ≡ plain_at (characters_of y d) d a n
  unfolding plain_at
  given e h f =
      let g : admission_of (characters_of y d) d ≡ 0 = rw (← used, ← asked) h in
      rw (eq-eqb _ _ g, ← used) (decoded_limited z d a (a + n) e f)

  pub plain_copied
      : (e m : ℕ) (out after : List ℕ) → k ≡ 0 → e ≡ min (a + n) (length d) → m ≡ length (decoded z a e d) → after ≡ copied (decoded z a e d) out
      → (m ≡ length (plain_at (characters_of y d) d a n)) × (after ≡ copied (plain_at (characters_of y d) d a n) out)
  plain_copied e m out after h f l w = (l ∙ ap length (given e h f), w ∙ ap (λ (s : List ℕ). copied s out) (given e h f))
