-- One step of a walk over segments: what a spot says of the list, and what each kind of segment does to a message's end and to the search.
use Rattle.std.specs.Prelude.{None}
use Rattle.messages.specs.workers.Walks.{some_spot}
use Rattle.messages.specs.Calls.{some_message}
use Rattle.std.specs.Prelude.{None}
use Rattle.std.proofs.lemmas.Option.{same_Some}
use Prim.Native.Nat.{ℕ, ◌≤◌, ◌<◌}
use mathlib.Core.Logic.{◌⊎◌, inl, inr}
use mathlib.Core.Path.{◌≡◌, refl, ◌∙◌, ap}
use mathlib.Core.Bool.{true, false, true≢false, false≢true}
use mathlib.Core.List.{List, [], ◌∷◌}
use native.Mathlib.Omega.{arith}
use lib.ListN.{length}
use Rattle.cut.specs.declared.service.Syntax.{Syntax}
use Rattle.messages.specs.declared.tags.Tag.{Tag}
use Rattle.messages.specs.declared.tags.Spot.{Spot}
use Rattle.messages.specs.declared.tags.Tag.TheVariants.{Unh, Unt, Unz, Other}
use Rattle.cut.specs.Segments.{Segment, end_of, segments_at, past_at, last_end}
use Rattle.messages.specs.Messages.{Message, tag_of, follow, body, begin, messages_in}
use Rattle.messages.specs.workers.Walks.{head_spot, head_found, is_unh, goes_on, last_by}
use Rattle.cut.proofs.Ahead.{first-ahead}

follow_on
    : (t : Tag) (x : Segment) (ss : List Segment) (at e : ℕ) → end_of x ≡ e → goes_on t ≡ true → last_end at (follow t x ss) ≡ last_end e ss
unfolding last_end
follow_on Unh x ss at e c g = absurd (false≢true g)
follow_on Unt x ss at e c g = absurd (false≢true g)
follow_on Unz x ss at e c g = absurd (false≢true g)
follow_on Other x ss at e c g = ap (λ (n : ℕ). last_end n ss) c

follow-stop
    : (t : Tag) (x : Segment) (ss : List Segment) (at e : ℕ) → end_of x ≡ e → goes_on t ≡ false → last_end at (follow t x ss) ≡ last_by t at e
unfolding last_end
follow-stop Unh x ss at e c g = refl
follow-stop Unt x ss at e c g = c
follow-stop Unz x ss at e c g = refl
follow-stop Other x ss at e c g = absurd (true≢false g)

pub begin_on : (t : Tag) (m : Message) (ms : List Message) → is_unh t ≡ false → begin t m ms ≡ ms
begin_on Unh m ms u = absurd (true≢false u)
begin_on Unt m ms u = refl
begin_on Unz m ms u = refl
begin_on Other m ms u = refl

pub begin-here : (t : Tag) (m : Message) (ms : List Message) → is_unh t ≡ true → begin t m ms ≡ m ∷ ms
begin-here Unh m ms u = refl
begin-here Unt m ms u = absurd (false≢true u)
begin-here Unz m ms u = absurd (false≢true u)
begin-here Other m ms u = absurd (false≢true u)

-- the first segment from `at` on is `segment`, with this start, tag and end, and then there is what follows its end
pub record Spotted (y : Syntax) (d : List ℕ) (at s : ℕ) (t : Tag) (e : ℕ) : Type 0 where
  pub segment : Segment
  pub starts : segment.start ≡ s
  pub past : segment.start ≡ past_at y d at
  pub tag : tag_of segment.bytes ≡ t
  pub closes : end_of segment ≡ e
  pub later : at ≤ s
  pub some : s < e
  pub fits : e ≤ length d
  pub list : segments_at y d at ≡ segment ∷ segments_at y d e

spotted_first
    : (y : Syntax) (d : List ℕ) (at s : ℕ) (t : Tag) (e : ℕ) (x : Segment) (xs : List Segment) → segments_at y d at ≡ x ∷ xs
    → x.start ≡ s → tag_of x.bytes ≡ t → end_of x ≡ e → Spotted y d at s t e
spotted_first y d at s t e x xs l a b c =
    let f = first-ahead y d at x xs l in
    record {
      segment = x;
      starts = a;
      past = f.starts;
      tag = b;
      closes = c;
      later = omega (arith, f.later);
      some = omega (arith, f.some);
      fits = omega (arith, f.fits);
      list = l ∙ ap (λ (us : List Segment). x ∷ us) (f.rest ∙ ap (segments_at y d) c);
    }

module _ (y : Syntax) (d : List ℕ) (at : ℕ) where
  pub spotted : (s : ℕ) (t : Tag) (e : ℕ) → head_spot (segments_at y d at) ≡ some_spot s t e → Spotted y d at s t e
  unfolding head_spot
  spotted s t e h = go (segments_at y d at) refl h
    where
      go : (ss : List Segment) → segments_at y d at ≡ ss → head_spot ss ≡ some_spot s t e → Spotted y d at s t e
      go [] l k = absurd (let z : ◌≡◌ {A = ℕ} 0 1 = cc in omega arith)
      go (x ∷ xs) l k =
          let q = same_Some _ _ k in
          spotted_first y d at s t e x xs l (ap (λ (r : Spot). r.start) q) (ap (λ (r : Spot). r.tag) q) (ap (λ (r : Spot). r.end) q)

  pub unspotted : head_spot (segments_at y d at) ≡ None → segments_at y d at ≡ []
  unfolding head_spot
  unspotted h = go (segments_at y d at) refl h
    where
      go : (ss : List Segment) → segments_at y d at ≡ ss → head_spot ss ≡ None → segments_at y d at ≡ []
      go [] l k = l
      go (x ∷ xs) l k = absurd (let z : ◌≡◌ {A = ℕ} 0 1 = cc in omega arith)

  -- a message's end, seen from the segment that comes next
  pub end_none : head_spot (segments_at y d at) ≡ None → last_end at (body (segments_at y d at)) ≡ at
  unfolding body last_end
  end_none h = rw (unspotted h)

  -- the search for a message, seen from the segment that comes next
  pub found_none : head_spot (segments_at y d at) ≡ None → head_found (messages_in (segments_at y d at)) ≡ None
  unfolding messages_in head_found
  found_none h = rw (unspotted h)

  module _ (s : ℕ) (t : Tag) (e : ℕ) (q : Spotted y d at s t e) where
    pub end_on
        : goes_on t ≡ true → last_end at (body (segments_at y d at)) ≡ last_end e (body (segments_at y d e))
    unfolding body
    end_on g = rw (q.list, q.tag) (follow_on t q.segment _ at e q.closes g)

    end_stop : goes_on t ≡ false → last_end at (body (segments_at y d at)) ≡ last_by t at e
    unfolding body
    end_stop g = rw (q.list, q.tag) (follow-stop t q.segment _ at e q.closes g)

    pub end_through : t ≡ Unt → last_end at (body (segments_at y d at)) ≡ e
    end_through u = end_stop (ap goes_on u) ∙ ap (λ (v : Tag). last_by v at e) u

    pub end_before : (t ≡ Unh) ⊎ (t ≡ Unz) → last_end at (body (segments_at y d at)) ≡ at
    end_before (inl u) = end_stop (ap goes_on u) ∙ ap (λ (v : Tag). last_by v at e) u
    end_before (inr u) = end_stop (ap goes_on u) ∙ ap (λ (v : Tag). last_by v at e) u

    pub found_on
        : is_unh t ≡ false → head_found (messages_in (segments_at y d at)) ≡ head_found (messages_in (segments_at y d e))
    unfolding messages_in
    found_on u = rw (q.list, q.tag, begin_on t _ _ u)

    pub found_here
        : (m : ℕ) → is_unh t ≡ true → m ≡ last_end e (body (segments_at y d e))
        → head_found (messages_in (segments_at y d at)) ≡ some_message s m
    unfolding messages_in head_found
    found_here m u l = rw (q.list, q.tag, begin-here t _ _ u, l, q.closes, q.starts)
