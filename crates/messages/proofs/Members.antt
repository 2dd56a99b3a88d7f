-- What holds of every message of a delivery: it lies within it, begins where a segment does, and is the segments of its own bytes alone.
use Prim.Native.Nat.{ℕ, ◌≤◌, ◌<◌}
use mathlib.Core.Path.{◌≡◌, refl, sym, ◌∙◌, ap}
use mathlib.Core.List.{List, [], ◌∷◌, ◌++◌}
use native.Mathlib.Omega.{arith}
use lib.ListN.{length, drop}
use Rattle.cut.specs.declared.service.Syntax.{Syntax}
use Rattle.messages.specs.declared.tags.Tag.{Tag}
use Rattle.messages.specs.declared.tags.Tag.TheVariants.{Unh, Unt, Unz, Other}
use Rattle.bytewise.specs.Bytes.{part}
use Rattle.cut.specs.Segments.{Segment, end_of, segments_of, segments_at, last_end}
use Rattle.messages.specs.Messages.{Message, start_of, close_of, tag_of, follow, body, begin, messages_in, messages}
use Rattle.messages.specs.Held.{is_unt, unless, held}
use Rattle.cut.proofs.Ahead.{FirstAhead, first-ahead, last-later, last_fits, own-bytes}
use Rattle.cut.specs.Admission.{opening_of, segments}
use Rattle.cut.proofs.Places.{of_segments}
use Rattle.messages.proofs.Ordering.{Apart, InOrder, apart_none, apart_weaken, segments-apart, in-order}

-- P holds of each
unfoldable pub Each : (Message → Type 0) → List Message → Type 0
Each P [] = Unit {0}
Each P (m ∷ ms) = P m × Each P ms

-- a message of the delivery d
pub record Lies (y : Syntax) (d : List ℕ) (m : Message) : Type 0 where
  pub some : start_of m < close_of m
  pub fits : close_of m ≤ length d
  pub begins_UNH : tag_of m.first.bytes ≡ Unh
  pub first-within : end_of m.first ≤ close_of m
  pub first-bytes : m.first.bytes ≡ part (start_of m) (end_of m.first) d
  pub alone : segments_of y (start_of m) (part (start_of m) (close_of m) d) ≡ m.first ∷ m.rest
  pub takes : held (segments_at y d (start_of m)) ≡ m.first ∷ m.rest

follow-front
    : (t : Tag) (s : Segment) (ss bs : List Segment) → ss ≡ bs ++ drop (length bs) ss → s ∷ ss ≡ follow t s bs ++ drop (length (follow t s bs)) (s ∷ ss)
follow-front Unh s ss bs h = refl
follow-front Unt s ss bs h = refl
follow-front Unz s ss bs h = refl
follow-front Other s ss bs h = ap (λ (us : List Segment). s ∷ us) h

-- what a message takes are the first of the segments
pub body-front : (ss : List Segment) → ss ≡ body ss ++ drop (length (body ss)) ss
unfolding body
body-front [] = refl
body-front (s ∷ ss) = follow-front (tag_of s.bytes) s ss (body ss) (body-front ss)

module _ (y : Syntax) (d : List ℕ) where
  -- a segment that begins UNH, with what follows it in its message
  lies_first
      : (p : ℕ) (s : Segment) (ss : List Segment) → FirstAhead y d p s ss → tag_of s.bytes ≡ Unh → Lies y d (record { first = s; rest = body ss })
  unfolding last_end held
  lies_first p s ss f u =
      let rest = drop (length (body ss)) ss in
      let l : segments_at y d s.start ≡ (s ∷ body ss) ++ rest = f.here ∙ ap (λ (us : List Segment). s ∷ us) (body-front ss) in
      let k = last-later y d (end_of s) (body ss) rest (sym f.rest ∙ body-front ss) in
      record {
        some = omega (arith, f.some);
        fits = last_fits y d s.start (s ∷ body ss) rest (omega (arith, f.some, f.fits)) l;
        begins_UNH = u;
        first-within = k;
        first-bytes = f.bytes;
        alone = own-bytes y d s.start (s ∷ body ss) rest l;
        takes = ap held f.here ∙ ap (λ (t : Tag). s ∷ unless (is_unt t) (body ss)) u;
      }

  Each_step
      : (t : Tag) (m : Message) (ms : List Message) → (t ≡ Unh → Lies y d m) → Each (Lies y d) ms → Each (Lies y d) (begin t m ms)
  unfolding Each
  Each_step Unh m ms h k = (h refl, k)
  Each_step Unt m ms h k = k
  Each_step Unz m ms h k = k
  Each_step Other m ms h k = k

  each_lies : (p : ℕ) (ss : List Segment) → segments_at y d p ≡ ss → Each (Lies y d) (messages_in ss)
  unfolding Each messages_in
  each_lies p [] l = tt
  each_lies p (s ∷ ss) l =
      let f = first-ahead y d p s ss l in
      Each_step (tag_of s.bytes) (record { first = s; rest = body ss }) (messages_in ss) (lies_first p s ss f) (each_lies (end_of s) ss (sym f.rest))

  -- every message of the delivery
  pub messages_lie : Each (Lies y d) (messages y d)
  unfolding messages Each messages_in
  messages_lie = of_segments y d (λ (ss : List Segment). Each (Lies y d) (messages_in ss)) tt (each_lies (opening_of y d) _ refl)

  -- they stand in order
  pub messages_in_order : InOrder 0 (messages y d)
  unfolding messages
  messages_in_order =
      in-order 0 (segments y d)
      (of_segments y d (Apart 0) (apart_none 0) (apart_weaken 0 (opening_of y d) _ (omega arith) (segments-apart y (opening_of y d) _)))
