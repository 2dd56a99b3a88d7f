-- Demand 3 for segments: a tail that begins UNH, in a longer delivery. UNA, line breaks and the limit are taken in: `Tail` asks only that
-- the longer delivery is admitted. A front that holds no segment is whole: Empty has which ones do not.
use Prim.Native.Nat.{ℕ, ◌+◌}
use mathlib.Core.Path.{◌≡◌, refl, sym, ◌∙◌, ap, ap₂}
use mathlib.Core.Bool.{Bool, true, false, and-false, false≢true}
use mathlib.Core.List.{List, [], ◌∷◌, ◌++◌, map}
use native.Mathlib.Nat.{add-zero}
use native.Mathlib.Omega.{arith}
use lib.ListN.{length, drop, length-drop}
use lib.Seq.{drop-append-le}
use lib.Dec.{lit<}
use borrow.Author.Tests.{ne_eqb}
use Rattle.cut.specs.declared.service.Syntax.{Syntax}
use Rattle.bytewise.specs.Bytes.{begins}
use Rattle.cut.specs.Segments.{Segment, ends, frees, join, segments_from, is_break, trimmed, segments_of, segments_at}
use Rattle.cut.specs.Admission.{opening_of, segments}
use Rattle.cut.specs.Fronts.{moved, whole, after, meet, UNH, Tail}
use Rattle.cut.specs.Characters.{has, service}
use Rattle.cut.proofs.Appended.{meet-whole}
use Rattle.cut.proofs.Skips.{trim-kept}
use Rattle.cut.proofs.Meeting.{behind, segments-meet}
use Rattle.cut.proofs.Moving.{segments-moved}
use Rattle.cut.proofs.cutting.Released.{ends-other, frees-not}
use Rattle.cut.proofs.Places.{admitted}
use Rattle.cut.proofs.Fronting.{has-not, no_U, admission_valid, U_kept, opening-same, opening-fits, front_admitted, tail-admitted, tail-opening}
use Rattle.bytewise.proofs.Words.{begins-at}

-- a byte that is no service character ends nothing and releases nothing, released or not
pub plain-ends : (y : Syntax) (r : Bool) (x : ℕ) → has x (service y) ≡ false → ends y r x ≡ false
plain-ends y r x n = ends-other y r x (has-not x (service y) 4 n (lit< tt))

pub plain-frees : (y : Syntax) (r : Bool) (x : ℕ) → has x (service y) ≡ false → frees y r x ≡ false
unfolding frees
plain-frees y r x n = frees-not y r x (rw (ne_eqb _ _ (has-not x (service y) 3 n (lit< tt)), and-false))

-- what stands before a byte that is no service character does not matter
plain-first
    : (y : Syntax) (p : ℕ) (r : Bool) (x : ℕ) (xs : List ℕ) → has x (service y) ≡ false → segments_from y p r (x ∷ xs) ≡ segments_from y p false (x ∷ xs)
unfolding segments_from
plain-first y p r x xs n = rw (plain-ends y r x n, plain-frees y r x n, plain-ends y false x n, plain-frees y false x n)

tail-first
    : (y : Syntax) (p : ℕ) (r : Bool) (tail : List ℕ) → has 85 (service y) ≡ false → begins UNH tail ≡ true → segments_from y p r tail
    ≡ segments_from y p false tail
unfolding segments_from
tail-first y p r [] n h = refl
tail-first y p r (x ∷ xs) n h =
    let e : x ≡ 85 = begins-at UNH (x ∷ xs) 0 h (lit< tt) in
    plain-first y p r x xs (rw e n)

-- where the tail begins no line break stands, so what is before it does not matter to them
behind-kept : (y : Syntax) (e : Bool) (p x : ℕ) (ss : List Segment) → is_break y x ≡ false → behind y false (join e p x ss) ≡ trimmed y (join e p x ss)
unfolding behind join trimmed
behind-kept y true p x ss n = sym (trim-kept y p x [] false (trimmed y ss) n)
behind-kept y false p x [] n = sym (trim-kept y p x [] true [] n)
behind-kept y false p x (s ∷ ss) n = sym (trim-kept y p x s.bytes s.piece (trimmed y ss) n)

behind-join : (y : Syntax) (b : Bool) (e : Bool) (p x : ℕ) (ss : List Segment) → is_break y x ≡ false → behind y b (join e p x ss) ≡ trimmed y (join e p x ss)
unfolding behind
behind-join y true e p x ss n = refl
behind-join y false e p x ss n = behind-kept y e p x ss n

tail-behind
    : (y : Syntax) (b : Bool) (p : ℕ) (tail : List ℕ) → begins UNH tail ≡ true → behind y b (segments_from y p false tail) ≡ segments_of y p tail
unfolding begins segments_from segments_of
tail-behind y b p [] h = absurd (false≢true h)
tail-behind y b p (x ∷ xs) h =
    let e : x ≡ 85 = begins-at UNH (x ∷ xs) 0 h (lit< tt) in
    behind-join y b (ends y false x) p x _ (rw e (U_kept y))

module _ (y : Syntax) (front tail : List ℕ) (t : Tail y front tail) where
  pub tail-segments : segments y tail ≡ segments_of y 0 tail
  tail-segments = admitted y tail (tail-admitted y front tail t) ∙ ap (segments_at y tail) (tail-opening y front tail t)

  abbrev o : ℕ
  o = opening_of y front

  abbrev fronts : List Segment
  fronts = segments_of y o (drop o front)

  fronts_end : o + length (drop o front) ≡ length front
  fronts_end = omega (arith, length-drop o front, opening-fits y front tail t)

  tail_cuts : segments_from y (o + length (drop o front)) (after y false (drop o front)) tail ≡ segments_from y (length front) false tail
  tail_cuts =
      ap (λ (q : ℕ). segments_from y q (after y false (drop o front)) tail) fronts_end
      ∙ tail-first y (length front) (after y false (drop o front)) tail (no_U y (admission_valid y (front ++ tail) t.admitted)) t.begins_UNH

  tails : segments_of y (length front) tail ≡ map (moved (length front)) (segments y tail)
  tails =
      ap (λ (q : ℕ). segments_of y q tail) (sym (add-zero (length front))) ∙ segments-moved y (length front) 0 tail
      ∙ ap (map (moved (length front))) (sym tail-segments)

  -- Any front: the longer delivery holds the front's segments and then the tail's, places moved; a piece at the front's end and the tail's
  -- first segment are one.
  pub segments-any-front : segments y (front ++ tail) ≡ meet (segments y front) (map (moved (length front)) (segments y tail))
  segments-any-front =
      admitted y (front ++ tail) t.admitted ∙ ap (segments_at y (front ++ tail)) (opening-same y front tail t)
      ∙ ap (segments_of y o) (drop-append-le o front tail (opening-fits y front tail t))
      ∙ segments-meet y o (drop o front) tail
      ∙ ap (λ (us : List Segment). meet fronts (behind y (whole fronts) us)) tail_cuts
      ∙ ap (meet fronts) (tail-behind y (whole fronts) (length front) tail t.begins_UNH)
      ∙ ap₂ meet (sym (admitted y front (front_admitted y front tail t))) tails

  -- The front ends where a segment ends: its segments, and then the tail's from the first on.
  pub segments-whole-front
      : whole (segments y front) ≡ true → segments y (front ++ tail) ≡ segments y front ++ map (moved (length front)) (segments y tail)
  segments-whole-front w = segments-any-front ∙ meet-whole (segments y front) _ w
