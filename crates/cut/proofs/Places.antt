-- What admission and the places say: the answers on a delivery that is not admitted, before its first segment and past its end.
use Prim.Native.Nat.{ℕ, ◌≤◌, ◌<◌}
use mathlib.Core.Path.{◌≡◌, refl, sym, ◌∙◌, ap}
use mathlib.Core.Bool.{Bool, true, false, not, ◌&&◌, true≢false}
use mathlib.Core.List.{List, [], append-nil}
use native.Mathlib.Nat.{le_refl}
use native.Mathlib.Omega.{arith}
use lib.ListN.{length, get_or, drop, length-drop}
use lib.Dec.{eqb, leb}
use borrow.Author.Tests.{eq-eqb, ne_eqb, leb-true, leb-false, eqb-true, eqb-false, not-true}
use Rattle.cut.specs.declared.service.Syntax.{Syntax}
use Rattle.std.specs.Prelude.{None}
use Rattle.bytewise.specs.Bytes.{part}
use Rattle.bytewise.proofs.Booleans.{and_both}
use Rattle.cut.specs.Segments.{Segment, is_break, trimmed, segments_of, segments_at, past_at, begins_in}
use Rattle.cut.specs.Admission.{admission_of, opening_of, segments}
use Rattle.cut.specs.Calls.{some_cut, cut_from, begins_segment}
use Rattle.cut.specs.Fronts.{whole, after}
use Rattle.cut.specs.Since.{since}
use Rattle.cut.proofs.First.{cutting, nothing}
use Rattle.cut.proofs.Starts.{Below, rising_weaken, begins-past, begins-append, below_more, since-all, since_none}
use Rattle.cut.proofs.Skips.{segments_are}
use Rattle.cut.proofs.Chains.{segments-rising, segments-below}
use Rattle.cut.proofs.Ahead.{none-past, past_end, past-here}
use Rattle.cut.proofs.cutting.Boundaries.{begins_told, since-closed, since_open}

module _ (y : Syntax) (d : List ℕ) where
  pub refused : (admission_of y d ≡ 0 → ⊥) → segments y d ≡ []
  unfolding segments
  refused n = rw (ne_eqb _ _ n)

  pub admitted : admission_of y d ≡ 0 → segments y d ≡ segments_at y d (opening_of y d)
  unfolding segments
  admitted e = rw (eq-eqb _ _ e)

  -- what holds of no segments, and of those from the opening on, holds of the delivery's
  pub of_segments : (P : List Segment → Type 0) → P [] → P (segments_at y d (opening_of y d)) → P (segments y d)
  of_segments P none some = go (eqb (admission_of y d) 0) refl
    where
      go : (a : Bool) → eqb (admission_of y d) 0 ≡ a → P (segments y d)
      go true e = rw (admitted (eqb-true _ _ e)) some
      go false e = rw (refused (eqb-false _ _ e)) none

  -- every segment begins within the delivery
  within : (p : ℕ) → Below (length d) (segments_at y d p)
  unfolding Below
  within p = go (leb p (length d)) refl
    where
      go : (b : Bool) → leb p (length d) ≡ b → Below (length d) (segments_at y d p)
      go true e =
          let h = leb-true p (length d) e in
          segments-below y p (drop p d) (length d) (omega (arith, length-drop p d))
      go false e =
          let h = leb-false p (length d) e in
          let n : length d ≤ p = omega arith in
          rw (none-past y d p n) tt

  module _ (at : ℕ) where
    pub begins_refused : (admission_of y d ≡ 0 → ⊥) → begins_segment y d at ≡ false
    unfolding begins_segment begins_in
    begins_refused n = rw (refused n)

    pub begins-beyond : admission_of y d ≡ 0 → length d ≤ at → begins_segment y d at ≡ false
    unfolding begins_segment begins_in
    begins-beyond e h =
        rw (admitted e, ← append-nil (segments_at y d (opening_of y d))) (begins-append at (length d) _ [] (within (opening_of y d)) h)

    pub begins-before : (p : ℕ) → admission_of y d ≡ 0 → p ≡ opening_of y d → at < p → begins_segment y d at ≡ false
    unfolding begins_segment
    begins-before p e o h = rw (admitted e, ← o) (begins-past at p _ (segments-rising y p (drop p d)) h)

    begins-at
        : (p : ℕ) → admission_of y d ≡ 0 → p ≡ opening_of y d → p ≤ at → at < length d
        → begins_segment y d at ≡ (not (is_break y (get_or d at 0)) && whole (segments_of y p (part p at d)))
    unfolding begins_segment
    begins-at p e o h k = rw (admitted e, ← o) (begins_told y d p at h (omega arith) k)

    -- at a line break
    pub begins_break
        : (p : ℕ) (b : Bool) → admission_of y d ≡ 0 → p ≡ opening_of y d → p ≤ at → at < length d → b ≡ is_break y (get_or d at 0) → b ≡ true
        → begins_segment y d at ≡ false
    begins_break p b e o h k i t = begins-at p e o h k ∙ rw (sym i ∙ t)

    -- at another byte
    pub begins-answered
        : (p : ℕ) (b r : Bool) → admission_of y d ≡ 0 → p ≡ opening_of y d → p ≤ at → at < length d → b ≡ is_break y (get_or d at 0) → b ≡ false
        → r ≡ whole (segments_of y p (part p at d)) → r ≡ begins_segment y d at
    begins-answered p b r e o h k i t w = w ∙ sym (begins-at p e o h k ∙ rw (sym i ∙ t))

  module _ (p from : ℕ) where
    pub since-opening : from ≤ p → since from (segments_at y d p) ≡ segments_at y d p
    since-opening h = since-all from _ (rising_weaken from p _ h (segments-rising y p (drop p d)))

    pub since_end : (z : ℕ) → length d ≤ from → length d ≤ z → since from (segments_at y d p) ≡ segments_at y d z
    unfolding since
    since_end z h k =
        rw (none-past y d z k, ← append-nil (segments_at y d p)) (since_none from _ [] (below_more (length d) from _ h (within p)))

    -- where a segment is open at a place, the first that begins later begins behind its end
    pub since_cut
        : (r : Bool) (s e : ℕ) (q : Bool) → p ≤ from → from ≤ length d → whole (segments_of y p (part p from d)) ≡ false
        → r ≡ after y false (part p from d) → cut_from y d from r ≡ some_cut s e q → since from (segments_at y d p) ≡ segments_at y d e
    since_cut r s e q h k w f a =
        since_open y d p from h k w ∙ rw (← f, (cutting y d from r s e q a).list) (sym (segments_are y e (drop e d)))

    pub since-nothing
        : (r : Bool) → p ≤ from → from ≤ length d → whole (segments_of y p (part p from d)) ≡ false
        → r ≡ after y false (part p from d) → cut_from y d from r ≡ None → since from (segments_at y d p) ≡ segments_at y d (length d)
    unfolding trimmed
    since-nothing r h k w f a =
        since_open y d p from h k w ∙ rw (← f, nothing y d from r a) (sym (none-past y d (length d) (le_refl (length d))))

  -- where a segment begins, those from there on are what the bytes from there on hold
  pub since-begins : (at : ℕ) → begins_segment y d at ≡ true → since at (segments y d) ≡ segments_at y d at
  since-begins at b = go (eqb (admission_of y d) 0) (leb (opening_of y d) at) (leb (length d) at) refl refl refl
    where
      go
          : (a o l : Bool) → eqb (admission_of y d) 0 ≡ a → leb (opening_of y d) at ≡ o → leb (length d) at ≡ l
          → since at (segments y d) ≡ segments_at y d at
      go false o l e f g = absurd (true≢false (sym b ∙ begins_refused at (eqb-false _ _ e)))
      go true o true e f g = absurd (true≢false (sym b ∙ begins-beyond at (eqb-true _ _ e) (leb-true _ _ g)))
      go true false false e f g = absurd (true≢false (sym b ∙ begins-before at (opening_of y d) (eqb-true _ _ e) refl (leb-false _ _ f)))
      go true true false e f g =
          let h = leb-true _ _ f in
          let k = leb-false _ _ g in
          ap (since at) (admitted (eqb-true _ _ e))
          ∙ since-closed y d (opening_of y d) at h (omega arith)
          (and_both (not (is_break y (get_or d at 0))) (whole (segments_of y (opening_of y d) (part (opening_of y d) at d)))
          (sym (begins-at at (opening_of y d) (eqb-true _ _ e) refl h k) ∙ b)).1

  -- and no line break stands there
  pub begins-kept : (at : ℕ) → begins_segment y d at ≡ true → past_at y d at ≡ at
  begins-kept at b = go (eqb (admission_of y d) 0) (leb (opening_of y d) at) (leb (length d) at) refl refl refl
    where
      go : (a o l : Bool) → eqb (admission_of y d) 0 ≡ a → leb (opening_of y d) at ≡ o → leb (length d) at ≡ l → past_at y d at ≡ at
      go false o l e f g = absurd (true≢false (sym b ∙ begins_refused at (eqb-false _ _ e)))
      go true o true e f g = past_end y d at (leb-true _ _ g)
      go true false false e f g = absurd (true≢false (sym b ∙ begins-before at (opening_of y d) (eqb-true _ _ e) refl (leb-false _ _ f)))
      go true true false e f g =
          let k = leb-false _ _ g in
          past-here y d at k
          (not-true _
          (and_both (not (is_break y (get_or d at 0))) (whole (segments_of y (opening_of y d) (part (opening_of y d) at d)))
          (sym (begins-at at (opening_of y d) (eqb-true _ _ e) refl (leb-true _ _ f) k) ∙ b)).0)
