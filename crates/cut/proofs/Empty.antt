-- Fronts that hold no segment: line breaks alone, with or without UNA. Item 4: such a front "counts as empty".
use Prim.Native.Nat.{ℕ, suc, ◌+◌}
use mathlib.Core.Path.{◌≡◌, refl, sym, ◌∙◌, ap}
use mathlib.Core.Bool.{true, false}
use mathlib.Core.List.{List, [], ◌∷◌, ◌++◌, append-nil}
use native.Mathlib.Nat.{add-zero, zero-add}
use native.Mathlib.Omega.{arith}
use lib.ListN.{length, drop}
use lib.Seq.{drop-drop, drop-append-le}
use Rattle.cut.specs.declared.service.Syntax.{Syntax}
use Rattle.bytewise.specs.Bytes.{begins}
use Rattle.bytewise.proofs.Booleans.{and_both}
use Rattle.cut.specs.Segments.{Segment, is_break, segments_of, segments_at, past, past_at, breaks}
use Rattle.cut.specs.Admission.{nine, opens, unbroken, opening_of, segments}
use Rattle.cut.proofs.Skips.{segments_of_none, skip_breaks}
use Rattle.cut.proofs.Ahead.{none-past}
use Rattle.cut.proofs.Places.{of_segments}
use Rattle.cut.proofs.Fronting.{U_kept, past-before}

module _ (y : Syntax) where
  past_all : (p : ℕ) (xs : List ℕ) → breaks y xs ≡ true → past y p xs ≡ p + length xs
  unfolding past breaks
  past_all p [] h = sym (add-zero p)
  past_all p (x ∷ xs) h =
      let k = and_both (is_break y x) (breaks y xs) h in
      let z : suc p + length xs ≡ p + suc (length xs) = omega arith in
      rw k.0 (past_all (suc p) xs k.1 ∙ z)

  only-breaks : (p : ℕ) (xs : List ℕ) → breaks y xs ≡ true → segments_of y p xs ≡ []
  only-breaks p xs h = ap (segments_of y p) (sym (append-nil xs)) ∙ skip_breaks y p xs [] h ∙ segments_of_none y (p + length xs)

  pub empty-front : (front : List ℕ) → breaks y front ≡ true → segments y front ≡ []
  unfolding opening_of
  empty-front front h =
      let l = past_all 0 front h in
      of_segments y front (λ (ss : List Segment). ss ≡ []) refl (none-past y front (opening_of y front) (omega (arith, l)))

  drop_all : (xs : List ℕ) → drop (length xs) xs ≡ []
  drop_all [] = refl
  drop_all (x ∷ xs) = drop_all xs

  -- line breaks before another byte are those that a delivery begins with
  module _ (front : List ℕ) (x : ℕ) (xs : List ℕ) (h : breaks y front ≡ true) (k : is_break y x ≡ false) where
    start-behind : past_at y (front ++ (x ∷ xs)) 0 ≡ length front
    start-behind = past-before y 0 front x xs k ∙ past_all 0 front h ∙ zero-add (length front)

    pub unbroken-behind : unbroken y (front ++ (x ∷ xs)) ≡ x ∷ xs
    unbroken-behind =
        ap (λ (n : ℕ). drop n (front ++ (x ∷ xs))) start-behind ∙ drop-append-le (length front) front (x ∷ xs) (omega arith)
        ∙ ap (λ (zs : List ℕ). zs ++ (x ∷ xs)) (drop_all front)

  module _ (a b : List ℕ) (h : breaks y a ≡ true) (k : breaks y b ≡ true) where
    abbrev front : List ℕ
    front = a ++ (nine y ++ b)

    start : past_at y front 0 ≡ length a
    start = start-behind a 85 _ h (U_kept y)

    behind-first : unbroken y front ≡ nine y ++ b
    behind-first = unbroken-behind a 85 _ h (U_kept y)

    opens-nine : opens (nine y ++ b) ≡ 9
    unfolding opens begins
    opens-nine = refl

    opening : opening_of y front ≡ length a + 9
    unfolding opening_of
    opening = rw (behind-first, opens-nine, start)

    left : drop (length a + 9) front ≡ b
    left = sym (drop-drop 9 (length a) front) ∙ ap (drop 9) (ap (λ (n : ℕ). drop n front) (sym start) ∙ behind-first)

    pub empty_una : segments y front ≡ []
    empty_una =
        of_segments y front (λ (ss : List Segment). ss ≡ []) refl
        (ap (segments_at y front) opening ∙ ap (segments_of y (length a + 9)) left ∙ only-breaks (length a + 9) b k)
