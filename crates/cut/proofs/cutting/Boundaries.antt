-- Whether a segment begins at a place, and where the first one does from a place on, told from the bytes before it.
use Prim.Native.Nat.{ℕ, suc, ◌+◌, ◌-◌, ◌≤◌, ◌<◌, min}
use mathlib.Core.Path.{◌≡◌, refl, sym, ap, ◌∙◌}
use mathlib.Core.Bool.{Bool, true, false, cond, not, ◌&&◌, and-false, false≢true}
use mathlib.Core.List.{List, [], ◌∷◌, ◌++◌}
use native.Mathlib.Nat.{le_refl}
use native.Mathlib.Omega.{arith}
use lib.ListN.{length, get_or, drop}
use borrow.Author.Tests.{eq-eqb}
use Rattle.cut.specs.declared.service.Syntax.{Syntax}
use Rattle.bytewise.specs.Bytes.{part}
use Rattle.cut.specs.Segments.{Segment, end_of, ends, segments_from, is_break, trimmed, segments_of, segments_at, begins_in}
use Rattle.cut.specs.Since.{since}
use Rattle.cut.specs.Fronts.{whole, after, glued, meet}
use Rattle.bytewise.proofs.Parts.{length_part, part_none, part-drop, part-last}
use Rattle.bytewise.proofs.Limits.{limited}
use Rattle.cut.proofs.Appended.{meet-whole}
use Rattle.cut.proofs.Starts.{Rising, Below, rising_weaken, begins-past, begins-append, since-all, since_none}
use Rattle.cut.proofs.Chains.{Chain, chained, trimmed-rising, segments-rising, segments-below}
use Rattle.cut.proofs.Skips.{segments_are, segments_of_none, terminator_kept}
use Rattle.cut.proofs.Meeting.{behind, segments-meet, after-whole, whole-last}
use Rattle.cut.proofs.Ahead.{past-here, skip_at, some-ahead, first-ahead}
use Rattle.cut.proofs.cutting.Released.{ends-other, ends_terminator}

-- a front that ends within a segment takes the first segment of what follows, and no more
pub record Open (at : ℕ) (ss ts : List Segment) : Type 0 where
  pub front : List Segment
  pub below : Below at front
  pub same : meet ss ts ≡ front ++ drop 1 ts

pub meet_open : (at : ℕ) (ss ts : List Segment) → Below at ss → whole ss ≡ false → Open at ss ts
unfolding meet whole glued Below
meet_open at [] ts k h = absurd (false≢true (sym h))
meet_open at (s ∷ ss) ts k h = go s.piece refl ts h (meet_open at ss ts k.1)
  where
    go : (b : Bool) → s.piece ≡ b → (ts : List Segment) → (not b && whole ss) ≡ false → (whole ss ≡ false → Open at ss ts) → Open at (s ∷ ss) ts
    go true e [] h ih = record { front = s ∷ []; below = (k.0, tt); same = rw e }
    go true e (t ∷ ts) h ih =
        record { front = record { start = s.start; bytes = s.bytes ++ t.bytes; piece = t.piece } ∷ []; below = (k.0, tt); same = rw e }
    go false e ts h ih =
        let o = ih h in
        record { front = s ∷ o.front; below = (k.0, o.below); same = rw (e, o.same) }

-- the segments behind the one that is open at a place
rest-rising : (y : Syntax) (at : ℕ) (r : Bool) (xs : List ℕ) → Rising (suc at) (trimmed y (drop 1 (segments_from y at r xs)))
unfolding Rising trimmed Chain
rest-rising y at r xs = go (segments_from y at r xs) (chained y at r xs)
  where
    go : (ss : List Segment) → Chain at ss (at + length xs) → Rising (suc at) (trimmed y (drop 1 ss))
    go [] k = tt
    go (s ∷ ss) k = rising_weaken (suc at) (end_of s) (trimmed y ss) (omega (arith, k.0, k.1)) (trimmed-rising y (end_of s) ss (at + length xs) k.3)

drop-behind : (y : Syntax) (ts : List Segment) → drop 1 (behind y false ts) ≡ trimmed y (drop 1 ts)
unfolding behind trimmed
drop-behind y [] = refl
drop-behind y (t ∷ ts) = refl

-- a segment begins at a place where no line break stands
begins-here : (y : Syntax) (d : List ℕ) (at : ℕ) → at < length d → is_break y (get_or d at 0) ≡ false → begins_in at (segments_at y d at) ≡ true
unfolding begins_in
begins-here y d at h k = go (segments_at y d at) refl
  where
    go : (ss : List Segment) → segments_at y d at ≡ ss → begins_in at ss ≡ true
    go [] l = absurd (some-ahead y d at h k l)
    go (s ∷ ss) l = rw (eq-eqb _ _ (sym ((first-ahead y d at s ss l).starts ∙ past-here y d at h k)))

-- none does where one stands
begins-not : (y : Syntax) (d : List ℕ) (at : ℕ) → at < length d → is_break y (get_or d at 0) ≡ true → begins_in at (segments_at y d at) ≡ false
begins-not y d at h k = ap (begins_in at) (skip_at y d at h k) ∙ begins-past at (at + 1) _ (segments-rising y (at + 1) (drop (at + 1) d)) (omega arith)

module _ (y : Syntax) (d : List ℕ) (from at : ℕ) (h : from ≤ at) (k : at ≤ length d) where
  abbrev upto : List Segment
  upto = segments_of y from (part from at d)

  abbrev cuts : List Segment
  cuts = segments_from y at (after y false (part from at d)) (drop at d)

  -- the segments from `from` on, parted at the place `at`
  parted : segments_at y d from ≡ meet upto (behind y (whole upto) cuts)
  parted =
      let l : from + length (part from at d) ≡ at = omega (arith, length_part d from at k) in
      ap (segments_of y from) (sym (part-drop d from at h)) ∙ segments-meet y from (part from at d) (drop at d)
      ∙ ap (λ (q : ℕ). meet upto (behind y (whole upto) (segments_from y q (after y false (part from at d)) (drop at d)))) l

  -- what stands before it begins before it
  front_below : Below at upto
  front_below = segments-below y from (part from at d) at (omega (arith, length_part d from at k))

  -- where the bytes up to the place end where a segment ends
  pub parted_closed : whole upto ≡ true → segments_at y d from ≡ upto ++ segments_at y d at
  unfolding behind
  parted_closed w =
      parted ∙ meet-whole upto _ w
      ∙ ap (λ (us : List Segment). upto ++ us)
      (ap (λ (b : Bool). behind y b cuts) w
      ∙ ap (λ (r : Bool). trimmed y (segments_from y at r (drop at d))) (after-whole y from (part from at d) w) ∙ sym (segments_are y at (drop at d)))

  parted_open : whole upto ≡ false → Open at upto (behind y false cuts)
  parted_open w = meet_open at upto (behind y false cuts) front_below w

  opened : (w : whole upto ≡ false) → segments_at y d from ≡ (parted_open w).front ++ trimmed y (drop 1 cuts)
  opened w =
      parted ∙ ap (λ (b : Bool). meet upto (behind y b cuts)) w ∙ (parted_open w).same
      ∙ ap (λ (us : List Segment). (parted_open w).front ++ us) (drop-behind y cuts)

  -- a segment begins at a place exactly if no line break stands there and what stands before it ends where a segment ends
  pub begins_told : at < length d → begins_in at (segments_at y d from) ≡ (not (is_break y (get_or d at 0)) && whole upto)
  begins_told l = go (whole upto) (is_break y (get_or d at 0)) refl refl
    where
      closed : whole upto ≡ true → begins_in at (segments_at y d from) ≡ begins_in at (segments_at y d at)
      closed w = ap (begins_in at) (parted_closed w) ∙ begins-append at at upto _ front_below (le_refl at)

      go : (w c : Bool) → whole upto ≡ w → is_break y (get_or d at 0) ≡ c → begins_in at (segments_at y d from) ≡ (not c && w)
      go true true e i = closed e ∙ begins-not y d at l i
      go true false e i = closed e ∙ begins-here y d at l i
      go false c e i =
          ap (begins_in at) (opened e) ∙ begins-append at at (parted_open e).front _ (parted_open e).below (le_refl at)
          ∙ begins-past at (suc at) _ (rest-rising y at _ (drop at d)) (omega arith) ∙ sym (and-false (not c))

  -- those that begin at a place or later, where what stands before it ends where a segment ends
  pub since-closed : whole upto ≡ true → since at (segments_at y d from) ≡ segments_at y d at
  since-closed w =
      ap (since at) (parted_closed w) ∙ since_none at upto _ front_below ∙ since-all at _ (segments-rising y at (drop at d))

  -- the same where it does not: all but the one that is open there
  pub since_open : whole upto ≡ false → since at (segments_at y d from) ≡ trimmed y (drop 1 cuts)
  since_open w =
      ap (since at) (opened w) ∙ since_none at (parted_open w).front _ (parted_open w).below
      ∙ since-all at _ (rising_weaken at (suc at) _ (omega arith) (rest-rising y at _ (drop at d)))

-- whether the bytes up to a place end where a segment ends
module _ (y : Syntax) (d : List ℕ) (from at : ℕ) where
  pub closed-first : at ≤ from → whole (segments_of y from (part from at d)) ≡ true
  unfolding whole
  closed-first h = rw (part_none d from at h) (ap whole (segments_of_none y from))

  closed-last
      : from < at → at ≤ length d
      → whole (segments_of y from (part from at d))
      ≡ cond (is_break y (get_or d (at - 1) 0)) (whole (segments_of y from (part from (at - 1) d)))
      (ends y (after y false (part from (at - 1) d)) (get_or d (at - 1) 0))
  closed-last h k = rw (part-last d from at h k) (whole-last y from (part from (at - 1) d) (get_or d (at - 1) 0))

  -- behind a line break as before it
  pub closed_break
      : from < at → at ≤ length d → is_break y (get_or d (at - 1) 0) ≡ true
      → whole (segments_of y from (part from at d)) ≡ whole (segments_of y from (part from (at - 1) d))
  closed_break h k i = closed-last h k ∙ rw i

  closed-other
      : from < at → at ≤ length d → is_break y (get_or d (at - 1) 0) ≡ false
      → whole (segments_of y from (part from at d)) ≡ ends y (after y false (part from (at - 1) d)) (get_or d (at - 1) 0)
  closed-other h k i = closed-last h k ∙ rw i

  pub closed-not
      : from < at → at ≤ length d → is_break y (get_or d (at - 1) 0) ≡ false → (get_or d (at - 1) 0 ≡ y.terminator → ⊥)
      → whole (segments_of y from (part from at d)) ≡ false
  closed-not h k i n = closed-other h k i ∙ ends-other y (after y false (part from (at - 1) d)) (get_or d (at - 1) 0) n

  pub closed-by
      : from < at → at ≤ length d → get_or d (at - 1) 0 ≡ y.terminator
      → whole (segments_of y from (part from at d)) ≡ not (after y false (part from (at - 1) d))
  closed-by h k t =
      closed-other h k (terminator_kept y (get_or d (at - 1) 0) t)
      ∙ ends_terminator y (after y false (part from (at - 1) d)) (get_or d (at - 1) 0) t

  -- a place past the delivery counts as its end
  pub closed-limit
      : (m : ℕ) → m ≡ min at (length d) → whole (segments_of y from (part from m d)) ≡ whole (segments_of y from (part from at d))
  closed-limit m e = ap (λ (xs : List ℕ). whole (segments_of y from xs)) (limited d from at m e)
