-- "Each message stands by itself": its bytes as a delivery of their own hold just this message, at the place 0.
use Prim.Native.Nat.{ℕ, ◌≤◌}
use mathlib.Core.Path.{◌≡◌, refl, sym, ◌∙◌, ap}
use mathlib.Core.Bool.{Bool, true, false, cond}
use mathlib.Core.List.{List, [], ◌∷◌, map, head-eq_of_cons-eq, tail-eq_of_cons-eq, nil≢cons}
use native.Mathlib.Nat.{add-zero}
use native.Mathlib.Omega.{arith}
use lib.ListN.{length}
use Rattle.cut.specs.declared.service.Syntax.{Syntax}
use Rattle.messages.specs.declared.tags.Tag.{Tag}
use Rattle.messages.specs.declared.tags.Tag.TheVariants.{Unh, Unt, Unz, Other}
use Rattle.bytewise.specs.Bytes.{bytes_of, part, begins}
use Rattle.cut.specs.Segments.{Segment, end_of, segments_of, segments_at}
use Rattle.cut.specs.Admission.{limit, admission_of, segments}
use Rattle.messages.specs.Messages.{Message, start_of, close_of, tag_of, follow, body, begin, messages_in, messages}
use Rattle.cut.specs.Fronts.{moved, UNH}
use Rattle.messages.specs.Fronts.{moved_message}
use Rattle.cut.proofs.Moving.{segments-moved}
use Rattle.bytewise.proofs.Words.{begins_more}
use Rattle.cut.proofs.Fronting.{admission_short, admission_valid, unh_admitted, unh_opening}
use Rattle.messages.proofs.walks.Grouping.{messages-moved}
use Rattle.messages.proofs.Members.{Each, Lies, messages_lie}
use Rattle.bytewise.proofs.Parts.{length_part, part-parts}
use Rattle.cut.proofs.Places.{admitted}

-- a message takes all of what it takes, and no other begins in that
record Closed (ss : List Segment) : Type 0 where
  all : body ss ≡ ss
  none : messages_in ss ≡ []

follow-closed : (t : Tag) (s : Segment) (ss : List Segment) → tag_of s.bytes ≡ t → Closed ss → Closed (follow t s ss)
unfolding body messages_in
follow-closed Unh s ss e c = record { all = refl; none = refl }
follow-closed Unt s ss e c = record { all = rw e; none = rw e }
follow-closed Unz s ss e c = record { all = refl; none = refl }
follow-closed Other s ss e c = record { all = rw (e, c.all); none = rw (e, c.none) }

body_closed : (ss : List Segment) → Closed (body ss)
unfolding body messages_in
body_closed [] = record { all = refl; none = refl }
body_closed (s ∷ ss) = follow-closed (tag_of s.bytes) s (body ss) refl (body_closed ss)

module _ (P : Message → Type 0) where
  each_begin : (t : Tag) (m : Message) (ms : List Message) → P m → Each P ms → Each P (begin t m ms)
  unfolding Each
  each_begin Unh m ms h k = (h, k)
  each_begin Unt m ms h k = k
  each_begin Unz m ms h k = k
  each_begin Other m ms h k = k

each_closed : (ss : List Segment) → Each (λ (m : Message). Closed m.rest) (messages_in ss)
unfolding Each messages_in
each_closed [] = tt
each_closed (s ∷ ss) =
    each_begin (λ (m : Message). Closed m.rest) (tag_of s.bytes) (record { first = s; rest = body ss }) (messages_in ss) (body_closed ss) (each_closed ss)

Each-both
    : (P Q R : Message → Type 0) → ((m : Message) → P m → Q m → R m) → (ms : List Message) → Each P ms → Each Q ms → Each R ms
unfolding Each
Each-both P Q R f [] p q = tt
Each-both P Q R f (m ∷ ms) p q = (f m p.0 q.0, Each-both P Q R f ms p.1 q.1)

tag_unh : (bs : List ℕ) → tag_of bs ≡ Unh → begins UNH bs ≡ true
unfolding tag_of
tag_unh bs h = go (begins UNH bs) (begins (bytes_of "UNT") bs) (begins (bytes_of "UNZ") bs) refl h
  where
    go : (a b c : Bool) → begins UNH bs ≡ a → cond a Unh (cond b Unt (cond c Unz Other)) ≡ Unh → begins UNH bs ≡ true
    go true b c e k = e
    go false true c e k =
        let z : ◌≡◌ {A = ℕ} 0 1 = cc in
        absurd (omega arith)
    go false false true e k =
        let z : ◌≡◌ {A = ℕ} 0 1 = cc in
        absurd (omega arith)
    go false false false e k =
        let z : ◌≡◌ {A = ℕ} 0 1 = cc in
        absurd (omega arith)

-- a message of the delivery, by itself
pub record ByItself (y : Syntax) (d : List ℕ) (m : Message) : Type 0 where
  pub alone : Message
  pub admits : admission_of y (part (start_of m) (close_of m) d) ≡ 0
  pub only : messages y (part (start_of m) (close_of m) d) ≡ alone ∷ []
  pub same : moved_message (start_of m) alone ≡ m

module _ (y : Syntax) (d : List ℕ) (a : admission_of y d ≡ 0) (m : Message) (l : Lies y d m) (c : Closed m.rest) where
  abbrev own : List ℕ
  own = part (start_of m) (close_of m) d

  own-moved : map (moved (start_of m)) (segments_of y 0 own) ≡ m.first ∷ m.rest
  own-moved =
      sym (segments-moved y (start_of m) 0 own) ∙ ap (λ (p : ℕ). segments_of y p own) (add-zero (start_of m)) ∙ l.alone

  own-messages : map (moved_message (start_of m)) (messages_in (segments_of y 0 own)) ≡ m ∷ []
  unfolding messages_in
  own-messages =
      sym (messages-moved (start_of m) (segments_of y 0 own)) ∙ ap messages_in own-moved ∙ rw (l.begins_UNH, c.all, c.none)

  own-begins : begins UNH own ≡ true
  own-begins =
      let k = l.first-within in
      ap (begins UNH)
      (sym (part-parts d (start_of m) (end_of m.first) (close_of m) (omega arith) k))
      ∙ begins_more UNH (part (start_of m) (end_of m.first) d) (part (end_of m.first) (close_of m) d)
      (ap (begins UNH) (sym l.first-bytes) ∙ tag_unh m.first.bytes l.begins_UNH)

  own-short : length own ≤ limit
  own-short = omega (arith, length_part d (start_of m) (close_of m) l.fits, l.fits, admission_short y d a)

  own-segments : segments y own ≡ segments_of y 0 own
  own-segments = admitted y own (unh_admitted y own own-short (admission_valid y d a) own-begins) ∙ ap (segments_at y own) (unh_opening y own own-begins)

  stands : (ms : List Message) → messages y own ≡ ms → map (moved_message (start_of m)) ms ≡ m ∷ [] → ByItself y d m
  stands [] e h = absurd (nil≢cons h)
  stands (n ∷ []) e h = record { alone = n; admits = unh_admitted y own own-short (admission_valid y d a) own-begins; only = e; same = head-eq_of_cons-eq h }
  stands (n ∷ o ∷ ms) e h = absurd (nil≢cons (sym (tail-eq_of_cons-eq h)))

  by_itself : ByItself y d m
  unfolding messages
  by_itself = stands (messages_in (segments_of y 0 own)) (ap messages_in own-segments) own-messages

pub messages-by_themselves : (y : Syntax) (d : List ℕ) → admission_of y d ≡ 0 → Each (ByItself y d) (messages y d)
unfolding messages
messages-by_themselves y d a =
    Each-both (Lies y d) (λ (m : Message). Closed m.rest) (ByItself y d) (by_itself y d a) (messages_in (segments y d)) (messages_lie y d)
    (each_closed (segments y d))
