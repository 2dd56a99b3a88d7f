-- Going from message to message: what a message or a segment outside leaves for the place behind it.
use Rattle.std.specs.Prelude.{Some, None}
use Rattle.std.specs.Prelude.{Some, None}
use Prim.Native.Nat.{ℕ, ◌≤◌, ◌<◌}
use mathlib.Core.Path.{◌≡◌, refl, sym, ◌∙◌, ap, subst}
use mathlib.Core.Bool.{Bool, true, false, false≢true}
use mathlib.Core.List.{List, [], ◌∷◌}
use native.Mathlib.Omega.{arith}
use lib.ListN.{length, drop}
use Rattle.cut.specs.declared.service.Syntax.{Syntax}
use Rattle.messages.specs.declared.tags.Tag.{Tag}
use Rattle.messages.specs.declared.tags.Tag.TheVariants.{Unh, Unt, Unz, Other}
use Rattle.cut.specs.Calls.{some_cut}
use Rattle.messages.specs.declared.outer.Outer.TheVariants as outer
use Rattle.bytewise.specs.Bytes.{part}
use Rattle.cut.specs.Segments.{Segment, end_of, segments_at, past_at, last_end, keep_if}
use Rattle.messages.specs.Messages.{Message, start_of, tag_of, follow, body, begin, messages_in}
use Rattle.cut.specs.Calls.{segment_at}
use Rattle.messages.specs.Held.{is_unt, unless, held, outer_by, head_outer}
use Rattle.messages.specs.workers.Walks.{first_tag, is_unh, out_by, open_by, left_over}
use Rattle.cut.proofs.Ahead.{cut_ahead, none_ahead, found_end, FirstAhead, first-ahead, last-later}
use Rattle.messages.proofs.Members.{body-front}
use Rattle.messages.proofs.Holding.{held_fits}

pub outer_message : (t : Tag) (e : ℕ) → is_unh t ≡ true → outer.Message ≡ outer_by t e
outer_message Unh e u = refl
outer_message Unt e u = absurd (false≢true u)
outer_message Unz e u = absurd (false≢true u)
outer_message Other e u = absurd (false≢true u)

-- the first of these segments begins a message
pub outer_unh : (ss : List Segment) → is_unh (first_tag ss) ≡ true → Some outer.Message ≡ head_outer ss
unfolding first_tag head_outer
outer_unh [] u = absurd (false≢true u)
outer_unh (s ∷ ss) u = ap Some (outer_message (tag_of s.bytes) (end_of s) u)

-- the segments behind an open message
unfoldable behind : List Segment → List Segment
behind ss = drop (length (body ss)) ss

module _ (s : Segment) (ss : List Segment) (t : Tag) (e : tag_of s.bytes ≡ t) where
  messages-here : messages_in (s ∷ ss) ≡ begin t (record { first = s; rest = body ss }) (messages_in ss)
  unfolding messages_in
  messages-here = rw e

  held-here : held (s ∷ ss) ≡ s ∷ unless (is_unt t) (body ss)
  unfolding held
  held-here = rw e

  left_here : (b : Bool) → left_over b (s ∷ ss) ≡ keep_if (out_by t b) s (left_over (open_by t b) ss)
  unfolding left_over
  left_here b = rw e

  behind-here : behind (s ∷ ss) ≡ drop (length (follow t s (body ss))) (s ∷ ss)
  unfolding behind body
  behind-here = rw e

-- its own segments begin no message
messages_step
    : (t : Tag) (s : Segment) (ss : List Segment) → tag_of s.bytes ≡ t → messages_in ss ≡ messages_in (behind ss) → messages_in (s ∷ ss)
    ≡ messages_in (behind (s ∷ ss))
unfolding behind
messages_step Unh s ss e ih = ap messages_in (sym (behind-here s ss Unh e))
messages_step Unt s ss e ih = messages-here s ss Unt e ∙ ap messages_in (sym (behind-here s ss Unt e))
messages_step Unz s ss e ih = ap messages_in (sym (behind-here s ss Unz e))
messages_step Other s ss e ih = messages-here s ss Other e ∙ ih ∙ ap messages_in (sym (behind-here s ss Other e))

messages-behind : (ss : List Segment) → messages_in ss ≡ messages_in (behind ss)
unfolding behind body
messages-behind [] = refl
messages-behind (s ∷ ss) = messages_step (tag_of s.bytes) s ss refl (messages-behind ss)

-- and none of them is outside
left_step
    : (t : Tag) (s : Segment) (ss : List Segment) → tag_of s.bytes ≡ t → left_over true ss ≡ left_over false (behind ss)
    → left_over true (s ∷ ss) ≡ left_over false (behind (s ∷ ss))
unfolding behind
left_step Unh s ss e ih = left_here s ss Unh e true ∙ sym (left_here s ss Unh e false) ∙ ap (left_over false) (sym (behind-here s ss Unh e))
left_step Unt s ss e ih = left_here s ss Unt e true ∙ ap (left_over false) (sym (behind-here s ss Unt e))
left_step Unz s ss e ih = left_here s ss Unz e true ∙ sym (left_here s ss Unz e false) ∙ ap (left_over false) (sym (behind-here s ss Unz e))
left_step Other s ss e ih = left_here s ss Other e true ∙ ih ∙ ap (left_over false) (sym (behind-here s ss Other e))

left_behind : (ss : List Segment) → left_over true ss ≡ left_over false (behind ss)
unfolding behind body left_over
left_behind [] = refl
left_behind (s ∷ ss) = left_step (tag_of s.bytes) s ss refl (left_behind ss)

module _ (y : Syntax) (d : List ℕ) where
  abbrev from : ℕ → List Segment
  from at = segments_at y d at

  -- the segments from where an open message ends
  behind-from : (at : ℕ) (ss : List Segment) → from at ≡ ss → from (last_end at (body ss)) ≡ behind ss
  unfolding behind body last_end
  behind-from at [] h = h
  behind-from at (s ∷ ss) h =
      let rest : ss ≡ from (end_of s) = (first-ahead y d at s ss h).rest in
      go (tag_of s.bytes) refl (behind-from (end_of s) ss (sym rest)) (sym rest)
    where
      go
          : (t : Tag) → tag_of s.bytes ≡ t → from (last_end (end_of s) (body ss)) ≡ drop (length (body ss)) ss → from (end_of s) ≡ ss
          → from (last_end at (follow (tag_of s.bytes) s (body ss))) ≡ drop (length (follow (tag_of s.bytes) s (body ss))) (s ∷ ss)
      go Unh e ih r = rw e h
      go Unt e ih r = rw e r
      go Unz e ih r = rw e h
      go Other e ih r = rw e ih

  module _ (at : ℕ) where
    pub outer_none : segment_at y d at ≡ None → None ≡ head_outer (from at)
    unfolding head_outer
    outer_none h = rw (none_ahead y d at h)

    pub outer_some
        : (s e : ℕ) (p : Bool) → segment_at y d at ≡ some_cut s e p → (t : Tag) → t ≡ tag_of (part s e d) → (o : _) → o ≡ outer_by t e → Some o
        ≡ head_outer (from at)
    unfolding head_outer
    outer_some s e p h t k o g =
        let q = cut_ahead y d at s e p h in
        rw (q.list, found_end y d at s e p q, ← k) (ap Some g)

    -- a message begins at the place, line breaks aside
    pub record Begun : Type 0 where
      pub message : Message
      pub starts : start_of message ≡ past_at y d at
      pub takes : held (from at) ≡ message.first ∷ message.rest
      pub messages : messages_in (from at) ≡ message ∷ messages_in (from (last_end at (held (from at))))
      pub outside : left_over false (from at) ≡ left_over false (from (last_end at (held (from at))))
      pub some : at < last_end at (held (from at))
      pub fits : last_end at (held (from at)) ≤ length d

    -- a segment that lies outside ends at e
    pub record Left (e : ℕ) : Type 0 where
      pub segment : Segment
      pub messages : messages_in (from at) ≡ messages_in (from e)
      pub outside : left_over false (from at) ≡ segment ∷ left_over false (from e)
      pub some : at < e
      pub fits : e ≤ length d

    module _ (x : Segment) (xs : List Segment) (h : from at ≡ x ∷ xs) where
      here : FirstAhead y d at x xs
      here = first-ahead y d at x xs h

      rest-here : from (end_of x) ≡ xs
      rest-here = sym here.rest

      begun-here : tag_of x.bytes ≡ Unh → Begun
      unfolding last_end
      begun-here e =
          let f = here in
          let takes : held (from at) ≡ x ∷ body xs = ap held h ∙ held-here x xs Unh e in
          let ends : last_end at (held (from at)) ≡ last_end (end_of x) (body xs) = ap (last_end at) takes in
          let after : from (last_end at (held (from at))) ≡ behind xs = ap from ends ∙ behind-from (end_of x) xs rest-here in
          let later = last-later y d (end_of x) (body xs) _ (rest-here ∙ body-front xs) in
          record {
            message = record { first = x; rest = body xs };
            starts = f.starts;
            takes = takes;
            messages =
                ap messages_in h ∙ messages-here x xs Unh e
                ∙ ap (λ (ms : List Message). record { first = x; rest = body xs } ∷ ms) (messages-behind xs ∙ ap messages_in (sym after));
            outside = ap (left_over false) h ∙ left_here x xs Unh e false ∙ left_behind xs ∙ ap (left_over false) (sym after);
            some = omega (arith, ends, f.later, f.some);
            fits = held_fits y d at (omega (arith, f.later, f.some, f.fits));
          }

      left_other
          : (t : Tag) → tag_of x.bytes ≡ t → begin t (record { first = x; rest = body xs }) (messages_in xs) ≡ messages_in xs
          → keep_if (out_by t false) x (left_over (open_by t false) xs) ≡ x ∷ left_over false xs → Left (end_of x)
      left_other t e m l =
          record {
            segment = x;
            messages = ap messages_in h ∙ messages-here x xs t e ∙ m ∙ ap messages_in (sym rest-here);
            outside = ap (left_over false) h ∙ left_here x xs t e false ∙ l ∙ ap (λ (us : List Segment). x ∷ left_over false us) (sym rest-here);
            some = omega (arith, here.later, here.some);
            fits = here.fits;
          }

    by-begun : (ss : List Segment) → from at ≡ ss → head_outer ss ≡ Some outer.Message → Begun
    unfolding head_outer
    by-begun [] h o = absurd (let z : ◌≡◌ {A = ℕ} 0 1 = cc in omega arith)
    by-begun (x ∷ xs) h o = go (tag_of x.bytes) refl o
      where
        go : (t : Tag) → tag_of x.bytes ≡ t → Some (outer_by t (end_of x)) ≡ Some outer.Message → Begun
        go Unh e k = begun-here x xs h e
        go Unt e k = absurd (let z : ◌≡◌ {A = ℕ} 0 1 = cc in omega arith)
        go Unz e k = absurd (let z : ◌≡◌ {A = ℕ} 0 1 = cc in omega arith)
        go Other e k = absurd (let z : ◌≡◌ {A = ℕ} 0 1 = cc in omega arith)

    by_left : (c : ℕ) (ss : List Segment) → from at ≡ ss → head_outer ss ≡ Some (outer.Segment c) → Left c
    unfolding head_outer
    by_left c [] h o = absurd (let z : ◌≡◌ {A = ℕ} 0 1 = cc in omega arith)
    by_left c (x ∷ xs) h o = go (tag_of x.bytes) refl o
      where
        go : (t : Tag) → tag_of x.bytes ≡ t → Some (outer_by t (end_of x)) ≡ Some (outer.Segment c) → Left c
        go Unh e k = absurd (let z : ◌≡◌ {A = ℕ} 0 1 = cc in omega arith)
        go Unt e k = subst Left (cc) (left_other x xs h Unt e refl refl)
        go Unz e k = subst Left (cc) (left_other x xs h Unz e refl refl)
        go Other e k = subst Left (cc) (left_other x xs h Other e refl refl)

    by-none : (ss : List Segment) → head_outer ss ≡ None → ss ≡ []
    unfolding head_outer
    by-none [] o = refl
    by-none (x ∷ xs) o = go (tag_of x.bytes) o
      where
        go : (t : Tag) → Some (outer_by t (end_of x)) ≡ None → x ∷ xs ≡ []
        go Unh k = absurd (let z : ◌≡◌ {A = ℕ} 0 1 = cc in omega arith)
        go Unt k = absurd (let z : ◌≡◌ {A = ℕ} 0 1 = cc in omega arith)
        go Unz k = absurd (let z : ◌≡◌ {A = ℕ} 0 1 = cc in omega arith)
        go Other k = absurd (let z : ◌≡◌ {A = ℕ} 0 1 = cc in omega arith)

    pub begun : head_outer (from at) ≡ Some outer.Message → Begun
    begun h = by-begun (from at) refl h

    pub left : (e : ℕ) → head_outer (from at) ≡ Some (outer.Segment e) → Left e
    left e h = by_left e (from at) refl h

    pub none_left : head_outer (from at) ≡ None → from at ≡ []
    none_left h = by-none (from at) h
