-- Laws for the loop over bytes: the answer for the segment that is open, seen from the byte that is read next.
use Prim.Native.Nat.{ℕ, zero, suc, ◌+◌, ◌-◌, ◌≤◌, ◌<◌, min}
use mathlib.Core.Path.{◌≡◌, refl, sym, subst, ◌∙◌}
use mathlib.Core.Bool.{Bool, true, false, false≢true, or-true}
use mathlib.Core.List.{List, [], ◌∷◌}
use native.Mathlib.Nat.{add-zero, le_refl}
use native.Mathlib.Numerals.{add-one}
use native.Mathlib.Decide.{dec_le, dec_lt}
use native.Mathlib.Omega.{arith}
use lib.ListN.{length, get_or, drop, drop_of_length-le}
use lib.Seq.{drop-cons}
use lib.Dec.{eqb}
use borrow.Author.Tests.{eq-eqb, ne_eqb, eqb-true}
use Rattle.cut.specs.declared.service.Syntax.{Syntax}
use mir.Val.{bool_byte}
use Rattle.std.specs.Prelude.{None}
use Rattle.cut.specs.Segments.{Segment, ends, frees, join, segments_from}
use Rattle.cut.specs.Calls.{some_cut, head_cut, cut_from}
use Rattle.bytewise.specs.Search.{FirstThat}
use Rattle.bytewise.proofs.Searching.{first_before}
use Rattle.cut.specs.workers.Scanning.{open_cut, is_mark, Onward, Marked}

open_more : (at i x : ℕ) (ss : List Segment) → open_cut at i (join false i x ss) ≡ open_cut at (i + 1) ss
unfolding open_cut join
open_more at i x [] = refl
open_more at i x (s ∷ ss) =
    let e : i + suc (length s.bytes) ≡ i + 1 + length s.bytes = omega arith in
    rw e

open_head : (e : Bool) (at x : ℕ) (ss : List Segment) → head_cut (join e at x ss) ≡ open_cut at at (join e at x ss)
unfolding open_cut join head_cut
open_head true at x ss = refl
open_head false at x [] = refl
open_head false at x (s ∷ ss) = refl

module _ (y : Syntax) (d : List ℕ) where
  pub segments-at
      : (i : ℕ) (r : Bool) → i < length d
      → segments_from y i r (drop i d)
      ≡ join (ends y r (get_or d i 0)) i (get_or d i 0) (segments_from y (i + 1) (frees y r (get_or d i 0)) (drop (i + 1) d))
  unfolding segments_from
  segments-at i r h = rw (add-one, drop-cons d i 0)

  pub segments-none : (i : ℕ) (r : Bool) → length d ≤ i → segments_from y i r (drop i d) ≡ []
  unfolding segments_from
  segments-none i r h = rw (drop_of_length-le d h)

  pub cut_none : (at : ℕ) (r : Bool) → length d ≤ at → cut_from y d at r ≡ None
  unfolding cut_from head_cut
  cut_none at r h = rw (segments-none at r h)

  pub cut_open : (at : ℕ) (r : Bool) → at < length d → cut_from y d at r ≡ open_cut at at (segments_from y at r (drop at d))
  unfolding cut_from
  cut_open at r h = rw (segments-at at r h) (open_head (ends y r (get_or d at 0)) at (get_or d at 0) _)

  -- a released byte ends nothing and releases nothing
  open_released
      : (at i : ℕ) → i < length d
      → open_cut at i (segments_from y i true (drop i d)) ≡ open_cut at (i + 1) (segments_from y (i + 1) false (drop (i + 1) d))
  unfolding ends frees
  open_released at i h = rw (segments-at i true h) (open_more at i _ _)

  open_on
      : (at i : ℕ) (r : Bool) → i < length d → (get_or d i 0 ≡ y.terminator → ⊥) → eqb (get_or d i 0) y.release ≡ r
      → open_cut at i (segments_from y i false (drop i d)) ≡ open_cut at (i + 1) (segments_from y (i + 1) r (drop (i + 1) d))
  unfolding ends frees
  open_on at i r h n f = rw (← f, segments-at i false h, ne_eqb _ _ n) (open_more at i _ _)

  pub open_end
      : (at i : ℕ) → i < length d → get_or d i 0 ≡ y.terminator
      → open_cut at i (segments_from y i false (drop i d)) ≡ some_cut at (i + 1) false
  unfolding ends open_cut join
  open_end at i h t = rw (segments-at i false h, eq-eqb _ _ t)

  pub open_out : (at i : ℕ) → length d ≤ i → open_cut at i (segments_from y i false (drop i d)) ≡ some_cut at i true
  unfolding open_cut
  open_out at i h = rw (segments-none i false h)

  pub onward-none : (i : ℕ) (r : Bool) → r ≡ false → i ≤ length d → Onward y d i r i
  onward-none i r e h = record { onward = omega arith; inside = h; seen = λ at. rw e }

  -- a released place past the end is as good as one that is not released
  pub onward-past : (i : ℕ) (r : Bool) → i ≤ length d → length d ≤ i → Onward y d i r i
  unfolding open_cut
  onward-past i r k h = record { onward = omega arith; inside = k; seen = λ at. rw (segments-none i r h, segments-none i false h) }

  pub onward_released : (i : ℕ) (r : Bool) → r ≡ true → i < length d → Onward y d i r (i + 1)
  onward_released i r e h = record { onward = omega arith; inside = omega arith; seen = λ at. rw e (open_released at i h) }

  -- a byte that is neither mark is passed
  pub onward-plain
      : (i j : ℕ) → Onward y d i false j → j < length d → (get_or d j 0 ≡ y.terminator → ⊥) → (get_or d j 0 ≡ y.release → ⊥)
      → Onward y d i false (j + 1)
  onward-plain i j q h n f =
      let o = q.onward in
      record { onward = omega arith; inside = omega arith; seen = λ at. q.seen at ∙ open_on at j false h n (ne_eqb _ _ f) }

  onward-other : (i j : ℕ) → Onward y d i false j → j < length d → is_mark y (get_or d j 0) ≡ false → Onward y d i false (j + 1)
  unfolding is_mark
  onward-other i j q h e =
      onward-plain i j q h (λ t. absurd (false≢true (sym e ∙ rw (eq-eqb _ _ t)))) (λ t. absurd (false≢true (sym e ∙ rw (eq-eqb _ _ t, or-true))))

  -- nor is any of n bytes
  onward-run
      : (i j n : ℕ) → Onward y d i false j → j + n ≤ length d → ((k : ℕ) → k < n → is_mark y (get_or d (j + k) 0) ≡ false)
      → Onward y d i false (j + n)
  onward-run i j zero q h t = rw (add-zero j) q
  onward-run i j (suc n) q h t =
      let z : j + suc n ≡ j + n + 1 = omega arith in
      rw z (onward-other i (j + n) (onward-run i j n q (omega arith) (λ k l. t k (omega arith))) (omega arith) (t n (omega arith)))

  -- a mark, or the end, where no byte before it is one
  module _ (i j : ℕ) (q : Onward y d i false j) where
    pub marked_release : get_or d j 0 ≡ y.release → Marked y d i j
    marked_release e = record { passed = q; mark = λ h n. e }

    marked-at : is_mark y (get_or d j 0) ≡ true → Marked y d i j
    unfolding is_mark
    marked-at e = record { passed = q; mark = λ h n. eqb-true _ _ (rw (ne_eqb _ _ n) at e) }

    pub marked_out : length d ≤ j → Marked y d i j
    marked_out k = record { passed = q; mark = λ h n. absurd (omega arith) }

  -- the first of them
  marked-within : (i j : ℕ) → i ≤ length d → FirstThat (is_mark y) d i (length d) j → Marked y d i j
  marked-within i j h f =
      let o = f.onward in
      let z : i + (j - i) ≡ j = omega arith in
      let q : Onward y d i false j =
      subst (Onward y d i false) z
      (onward-run i i (j - i) (onward-none i false refl h) (omega (arith, f.within)) (λ k l. f.before (i + k) (omega arith) (omega arith))) in
      go f q (dec_lt j (length d))
    where
      go : FirstThat (is_mark y) d i (length d) j → Onward y d i false j → Dec (j < length d) → Marked y d i j
      go f q (yes l) = marked-at i j q (f.passes l)
      go f q (no l) = marked_out i j q (omega arith)

  -- the same from a place that may be past the end
  pub marked-first : (i j : ℕ) → FirstThat (is_mark y) d i (min (length d) (length d)) j → Marked y d (min i (length d)) j
  marked-first i j g = go (dec_le i (length d)) (first_before (is_mark y) d i (length d) j (le_refl (length d)) g)
    where
      go : Dec (i ≤ length d) → FirstThat (is_mark y) d i (length d) j → Marked y d (min i (length d)) j
      go (yes h) f =
          let z : min i (length d) ≡ i = omega arith in
          rw z (marked-within i j h f)
      go (no h) f =
          let z : min i (length d) ≡ length d = omega arith in
          let o : j ≡ length d = omega (arith, f.onward, f.within) in
          rw (z, o) (marked_out (length d) (length d) (onward-none (length d) false refl (le_refl (length d))) (le_refl (length d)))

  -- past a byte that is released, if one stands there
  onward-released : (i : ℕ) → i ≤ length d → Onward y d i true (min (i + 1) (length d))
  onward-released i h = go (dec_lt i (length d))
    where
      go : Dec (i < length d) → Onward y d i true (min (i + 1) (length d))
      go (yes l) =
          let z : min (i + 1) (length d) ≡ i + 1 = omega arith in
          rw z (onward_released i true refl l)
      go (no l) =
          let z : min (i + 1) (length d) ≡ i = omega arith in
          rw z (onward-past i true h (omega arith))

  pub onward-behind : (k : ℕ) → k < length d → Onward y d (k + 1) true (min (k + 2) (length d))
  onward-behind k l =
      let z : k + 1 + 1 ≡ k + 2 = omega arith in
      subst (λ (n : ℕ). Onward y d (k + 1) true (min n (length d))) z (onward-released (k + 1) (omega arith))

  pub onward-entered : (i : ℕ) (r : Bool) (n : ℕ) → n ≡ bool_byte r → i < length d → Onward y d i r (min (i + n) (length d))
  onward-entered i true n e l = rw e (onward-released i (omega arith))
  onward-entered i false n e l =
      let z : min (i + n) (length d) ≡ i = omega arith in
      rw z (onward-none i false refl (omega arith))

  -- the answer for the open segment, at the next mark and past a release mark there
  pub open_marked
      : (at i k j : ℕ) → Marked y d i k → k < length d → (get_or d k 0 ≡ y.terminator → ⊥) → Onward y d (k + 1) true j
      → open_cut at i (segments_from y i false (drop i d)) ≡ open_cut at j (segments_from y j false (drop j d))
  open_marked at i k j m h n q = m.passed.seen at ∙ open_on at k true h n (eq-eqb _ _ (m.mark h n)) ∙ q.seen at
