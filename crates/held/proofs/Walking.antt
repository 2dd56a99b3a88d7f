-- A walk by the reader's steps gives the delivery's segments, all of them and in order, and then none.
use Prim.Native.Nat.{ℕ, zero, suc, ◌+◌, ◌-◌, ◌≤◌, ◌<◌}
use mathlib.Core.Path.{◌≡◌, refl, sym, ap, ◌∙◌}
use mathlib.Core.Bool.{Bool, true, false, cond}
use mathlib.Core.List.{List, [], ◌∷◌, ◌++◌, map}
use native.Mathlib.Nat.{zero-add, suc-add}
use native.Mathlib.Omega.{arith}
use lib.ListN.{length, drop, replicate}
use lib.Dec.{eqb}
use denote.Ref.{Bor}
use Rattle.std.specs.Prelude.{Option, Some, None, ⊤}
use Rattle.std.specs.Iterator.{MakesProgress, at_most}
use Rattle.cut.specs.declared.service.Syntax.{Syntax}
use Rattle.cut.specs.declared.scan.Cut.{Cut}
use Rattle.cut.specs.declared.steps.Cursor.{Cursor}
use Rattle.cut.specs.Segments.{Segment}
use Rattle.cut.specs.Admission.{admission_of, only_if, segments}
use Rattle.cut.specs.Used.{characters_of}
use Rattle.cut.specs.Calls.{some_cut, some_step, head_cut, segment_at, stepped, step_of}
use Rattle.cut.proofs.Cuts.{start-same, end-same, cursor-same, found-same}
use Rattle.cut.proofs.Stepping.{ahead, ahead-opened, step_refused, step_some, step_none}
use Rattle.held.specs.declared.reader.Reader.{Reader}
use Rattle.held.specs.Reading.{as_cut, next_from, place_after, reader_on, answer_of, moved_on, moved_by, answers, answers_from, segment_cut, segment_no}

-- the by-value cursor at a place of a delivery
abbrev cursor : Syntax → List ℕ → ℕ → Cursor
cursor y d at = record { syntax = characters_of y d; at = at }

cut_of_stepped : (y : Syntax) (k : Option Cut) → as_cut (stepped y k) ≡ k
cut_of_stepped y (Some k) = refl
cut_of_stepped y None = refl

drop-one : (l : List Segment) (n : ℕ) → drop n (drop 1 l) ≡ drop (suc n) l
drop-one [] zero = refl
drop-one [] (suc n) = refl
drop-one (s ∷ ss) n = refl

module _ (y : Syntax) (d : List ℕ) (at : ℕ) where
  first_of : (a : Bool) (ss : List Segment) → as_cut (cond a (stepped (characters_of y d) (head_cut ss)) None) ≡ head_cut (only_if a ss)
  unfolding head_cut
  first_of true ss = cut_of_stepped (characters_of y d) (head_cut ss)
  first_of false ss = refl

  -- a step answers the first of the segments ahead
  next-ahead : next_from y d at ≡ head_cut (ahead (cursor y d at) d)
  unfolding next_from step_of segment_at ahead
  next-ahead = first_of (eqb (admission_of (characters_of y d) d) 0) _

  -- the cursor after a step has its place at the segment's end
  cursor_after : (s e : ℕ) (p : Bool) (n : Cursor) → step_of (cursor y d at) d ≡ some_step s e p n → n ≡ cursor y d e
  unfolding step_of
  cursor_after s e p n h = go (eqb (admission_of (characters_of y d) d) 0) (segment_at (characters_of y d) d _) h
    where
      go : (a : Bool) (k : Option Cut) → cond a (stepped (characters_of y d) k) None ≡ some_step s e p n → n ≡ cursor y d e
      go true (Some k) h =
          sym (cursor-same (k, record { syntax = characters_of y d; at = k.end }) (record { start = s; end = e; piece = p }, n) h)
          ∙ ap (λ (c : Cut). cursor y d c.end)
          (found-same (k, record { syntax = characters_of y d; at = k.end }) (record { start = s; end = e; piece = p }, n) h)
      go true None h = absurd (let z : ◌≡◌ {A = ℕ} 0 1 = cc in omega arith)
      go false k h = absurd (let z : ◌≡◌ {A = ℕ} 0 1 = cc in omega arith)

  -- behind its answer the others are ahead
  others-ahead : ahead (cursor y d (place_after (next_from y d at) at)) d ≡ drop 1 (ahead (cursor y d at) d)
  unfolding next_from place_after
  others-ahead = go (step_of (cursor y d at) d) refl
    where
      go : (s : Option (Cut × Cursor)) → step_of (cursor y d at) d ≡ s → ahead (cursor y d (place_after (as_cut s) at)) d ≡ drop 1 (ahead (cursor y d at) d)
      go (Some k) h = rw ((step_some (cursor y d at) d k.0.start k.0.end k.0.piece k.1 h).rest, cursor_after k.0.start k.0.end k.0.piece k.1 h)
      go None h = rw (step_none (cursor y d at) d h)

  -- a step's segment is not empty, and lies in the delivery, at the place or later
  pub next_in_delivery : (s e : ℕ) (p : Bool) → next_from y d at ≡ some_cut s e p → (at ≤ s) × ((s < e) × (e ≤ length d))
  unfolding next_from
  next_in_delivery s e p h = go (step_of (cursor y d at) d) refl h
    where
      go : (t : Option (Cut × Cursor)) → step_of (cursor y d at) d ≡ t → as_cut t ≡ some_cut s e p → (at ≤ s) × ((s < e) × (e ≤ length d))
      go (Some k) f h =
          let q = step_some (cursor y d at) d k.0.start k.0.end k.0.piece k.1 f in
          let a = start-same _ _ _ _ _ _ h in
          let b = end-same _ _ _ _ _ _ h in
          (omega (arith, q.later), (omega (arith, q.some), omega (arith, q.fits)))
      go None f h = absurd (let z : ◌≡◌ {A = ℕ} 0 1 = cc in omega arith)

-- the segments that a reader still has before it
abbrev before : Reader → List Segment
before r = ahead (cursor r.syntax r.delivery.now r.at) r.delivery.now

answer-before : (r : Reader) → answer_of r ≡ head_cut (before r)
unfolding answer_of
answer-before r = next-ahead r.syntax r.delivery.now r.at

moved_before : (r : Reader) → before (moved_on r) ≡ drop 1 (before r)
unfolding answer_of moved_on
moved_before r = others-ahead r.syntax r.delivery.now r.at

moved-by-before : (n : ℕ) (r : Reader) → before (moved_by n r) ≡ drop n (before r)
unfolding moved_by
moved-by-before zero r = refl
moved-by-before (suc n) r = moved-by-before n (moved_on r) ∙ ap (drop n) (moved_before r) ∙ drop-one (before r) n

-- the step after n others gives the segment with the number n, or none if there is no such
pub nth_step : (y : Syntax) (d : Bor (List ℕ)) (n : ℕ) → answer_of (moved_by n (reader_on y d)) ≡ segment_no y d.now n
nth_step y d n =
    answer-before (moved_by n (reader_on y d)) ∙ ap head_cut (moved-by-before n (reader_on y d) ∙ ap (drop n) (ahead-opened y d.now))

module _ (y : Syntax) (d : List ℕ) where
  from-none : (n at : ℕ) → ahead (cursor y d at) d ≡ [] → answers_from n y d at ≡ replicate n None
  unfolding answers_from head_cut
  from-none zero at h = refl
  from-none (suc n) at h =
      let e : next_from y d at ≡ None = next-ahead y d at ∙ ap head_cut h in
      rw (from-none n (place_after (next_from y d at) at) (others-ahead y d at ∙ ap (drop 1) h), e)

  from_all
      : (n : ℕ) (ss : List Segment) (at : ℕ) → ahead (cursor y d at) d ≡ ss
      → answers_from (length ss + n) y d at ≡ map segment_cut ss ++ replicate n None
  unfolding answers_from head_cut
  from_all n [] at h = rw (zero-add n) (from-none n at h)
  from_all n (s ∷ ss) at h =
      let e : next_from y d at ≡ segment_cut s = next-ahead y d at ∙ ap head_cut h in
      rw (suc-add (length ss) n, from_all n ss (place_after (next_from y d at) at) (others-ahead y d at ∙ ap (drop 1) h), e)

  -- from 0 on, and then from each end, `step_from` gives all segments of the delivery, in order, and none from then on
  pub all-from_0
      : (n : ℕ) → answers_from (length (segments (characters_of y d) d) + n) y d 0
      ≡ map segment_cut (segments (characters_of y d) d) ++ replicate n None
  all-from_0 n = from_all n (segments (characters_of y d) d) 0 (ahead-opened y d)

same-answers : (n : ℕ) (r : Reader) → answers n r ≡ answers_from n r.syntax r.delivery.now r.at
unfolding answers answers_from answer_of moved_on
same-answers zero r = refl
same-answers (suc n) r = ap (λ (cs : List (Option Cut)). answer_of r ∷ cs) (same-answers n (moved_on r))

-- from `opened` on the steps give all segments of the delivery, in order, and none from then on
pub all_in_order
    : (y : Syntax) (d : Bor (List ℕ)) (n : ℕ)
    → answers (length (segments (characters_of y d.now) d.now) + n) (reader_on y d)
    ≡ map segment_cut (segments (characters_of y d.now) d.now) ++ replicate n None
all_in_order y d n = same-answers _ (reader_on y d) ∙ all-from_0 y d.now n

-- "on a delivery not admitted, none at once", wherever the reader stands
pub none-at-once : (r : Reader) → (admission_of (characters_of r.syntax r.delivery.now) r.delivery.now ≡ 0 → ⊥) → answer_of r ≡ None
unfolding answer_of next_from
none-at-once r n = ap as_cut (step_refused (cursor r.syntax r.delivery.now r.at) r.delivery.now n)

-- at none the reader stays as it is
pub none_stays : (r : Reader) → answer_of r ≡ None → moved_on r ≡ r
unfolding moved_on place_after
none_stays r h = ap (λ (c : Option Cut). record { syntax = r.syntax; delivery = r.delivery; at = place_after c r.at }) h

-- a reader's next segment ends behind its place, so that it comes to an end
pub goes
    : (r : Reader) (k : Option Cut) (n : ℕ) → k ≡ next_from r.syntax r.delivery.now r.at → n ≡ place_after k r.at
    → MakesProgress (λ (s : Reader). ⊤) (λ s. at_most (length s.delivery.now - s.at)) r k (record { syntax = r.syntax; delivery = r.delivery; at = n })
unfolding place_after
goes r (Some k) n e f =
    let q = next_in_delivery r.syntax r.delivery.now r.at k.start k.end k.piece (sym e) in
    record { on = λ h. (tt, tt, omega (arith, q.0, q.1)); keeps = tt; rests = λ h. tt }
goes r None n e f = record { on = λ h. tt; keeps = tt; rests = λ h. tt }
