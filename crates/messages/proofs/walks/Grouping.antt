-- Messages of segments that are moved, or that follow others.
use Prim.Native.Nat.{ℕ, ◌+◌}
use mathlib.Core.Path.{◌≡◌, refl, ap}
use mathlib.Core.Bool.{Bool, true, false, cond}
use mathlib.Core.List.{List, [], ◌∷◌, ◌++◌, map}
use lib.ListN.{take, drop}
use Rattle.cut.specs.declared.service.Syntax.{Syntax}
use Rattle.messages.specs.declared.tags.Tag.{Tag}
use Rattle.messages.specs.declared.tags.Tag.TheVariants.{Unh, Unt, Unz, Other}
use Rattle.bytewise.specs.Bytes.{begins}
use Rattle.cut.specs.Segments.{Segment, ends, frees, join, segments_from, trimmed, segments_of}
use Rattle.cut.proofs.Skips.{trim-kept}
use Rattle.cut.proofs.Fronting.{U_kept}
use Rattle.messages.specs.Messages.{Message, tag_of, follow, body, begin, messages_in}
use Rattle.cut.specs.Fronts.{moved, glued, meet}
use Rattle.messages.specs.Fronts.{moved_message, begun_in}

-- a segment that begins elsewhere, and a message of such
abbrev pub restarted : (ℕ → ℕ) → Segment → Segment
restarted h s = record { start = h s.start; bytes = s.bytes; piece = s.piece }

abbrev pub restarted_message : (ℕ → ℕ) → Message → Message
restarted_message h m = record { first = restarted h m.first; rest = map (restarted h) m.rest }

module _ (h : ℕ → ℕ) where
  follow_restarted : (t : Tag) (s : Segment) (ss : List Segment) → follow t (restarted h s) (map (restarted h) ss) ≡ map (restarted h) (follow t s ss)
  follow_restarted Unh s ss = refl
  follow_restarted Unt s ss = refl
  follow_restarted Unz s ss = refl
  follow_restarted Other s ss = refl

  body_restarted : (ss : List Segment) → body (map (restarted h) ss) ≡ map (restarted h) (body ss)
  unfolding body
  body_restarted [] = refl
  body_restarted (s ∷ ss) = rw (body_restarted ss) (follow_restarted (tag_of s.bytes) s (body ss))

  begin_restarted
      : (t : Tag) (m : Message) (ms : List Message) → begin t (restarted_message h m) (map (restarted_message h) ms) ≡ map (restarted_message h) (begin t m ms)
  begin_restarted Unh m ms = refl
  begin_restarted Unt m ms = refl
  begin_restarted Unz m ms = refl
  begin_restarted Other m ms = refl

  -- where segments begin makes no difference to which messages they are
  pub messages_restarted : (ss : List Segment) → messages_in (map (restarted h) ss) ≡ map (restarted_message h) (messages_in ss)
  unfolding messages_in
  messages_restarted [] = refl
  messages_restarted (s ∷ ss) =
      rw (body_restarted ss, messages_restarted ss) (begin_restarted (tag_of s.bytes) (record { first = s; rest = body ss }) (messages_in ss))

pub body-moved : (k : ℕ) (ss : List Segment) → body (map (moved k) ss) ≡ map (moved k) (body ss)
body-moved k ss = body_restarted (λ n. k + n) ss

-- segments k places later are the same messages k places later
pub messages-moved : (k : ℕ) (ss : List Segment) → messages_in (map (moved k) ss) ≡ map (moved_message k) (messages_in ss)
messages-moved k ss = messages_restarted (λ n. k + n) ss

begin-append : (t : Tag) (m : Message) (ms ns : List Message) → begin t m (ms ++ ns) ≡ begin t m ms ++ ns
begin-append Unh m ms ns = refl
begin-append Unt m ms ns = refl
begin-append Unz m ms ns = refl
begin-append Other m ms ns = refl

-- the messages that begin in the first part, and then those of the second
pub messages-append : (ss ts : List Segment) → messages_in (ss ++ ts) ≡ begun_in ss ts ++ messages_in ts
unfolding messages_in begun_in
messages-append [] ts = refl
messages-append (s ∷ ss) ts =
    rw (messages-append ss ts) (begin-append (tag_of s.bytes) (record { first = s; rest = body (ss ++ ts) }) (begun_in ss ts) (messages_in ts))

body_closed : (ss ts : List Segment) → body ts ≡ [] → body (ss ++ ts) ≡ body ss
unfolding body
body_closed [] ts h = h
body_closed (s ∷ ss) ts h = rw (body_closed ss ts h)

-- where nothing of the second part continues a message, the first part's messages are its own
pub begun-closed : (ss ts : List Segment) → body ts ≡ [] → begun_in ss ts ≡ messages_in ss
unfolding begun_in messages_in
begun-closed [] ts h = refl
begun-closed (s ∷ ss) ts h = rw (body_closed ss ts h, begun-closed ss ts h)

-- what a front changes is the first segment of what follows
pub meet-first : (ss ts : List Segment) → meet ss ts ≡ meet ss (take 1 ts) ++ drop 1 ts
unfolding meet glued
meet-first [] [] = refl
meet-first [] (t ∷ ts) = refl
meet-first (s ∷ ss) ts = go s.piece ts (meet-first ss ts)
  where
    go
        : (b : Bool) (ts : List Segment) → meet ss ts ≡ meet ss (take 1 ts) ++ drop 1 ts
        → cond b (glued s ts) (s ∷ meet ss ts) ≡ cond b (glued s (take 1 ts)) (s ∷ meet ss (take 1 ts)) ++ drop 1 ts
    go true [] ih = refl
    go true (t ∷ ts) ih = refl
    go false ts ih = ap (λ (us : List Segment). s ∷ us) ih

-- some segments, of which the first begins a message
pub record Headed (ss : List Segment) : Type 0 where
  pub head : Segment
  pub rest : List Segment
  pub same : ss ≡ head ∷ rest
  pub tag : tag_of head.bytes ≡ Unh

headed_join : (y : Syntax) (e : Bool) (p q r : ℕ) (ss : List Segment) → Headed (trimmed y (join false p 85 (join false q 78 (join e r 72 ss))))
unfolding join tag_of begins trimmed
headed_join y true p q r ss =
    record {
      head = record { start = p; bytes = 85 ∷ 78 ∷ 72 ∷ []; piece = false };
      rest = trimmed y ss;
      same = trim-kept y p 85 (78 ∷ 72 ∷ []) false (trimmed y ss) (U_kept y);
      tag = refl;
    }
headed_join y false p q r [] =
    record {
      head = record { start = p; bytes = 85 ∷ 78 ∷ 72 ∷ []; piece = true };
      rest = [];
      same = trim-kept y p 85 (78 ∷ 72 ∷ []) true [] (U_kept y);
      tag = refl;
    }
headed_join y false p q r (s ∷ ss) =
    record {
      head = record { start = p; bytes = 85 ∷ 78 ∷ 72 ∷ s.bytes; piece = s.piece };
      rest = trimmed y ss;
      same = trim-kept y p 85 (78 ∷ 72 ∷ s.bytes) s.piece (trimmed y ss) (U_kept y);
      tag = refl;
    }

-- bytes that begin UNH, where neither U nor N ends a segment
pub headed
    : (y : Syntax) (p : ℕ) (xs : List ℕ) → ends y false 85 ≡ false → frees y false 85 ≡ false → ends y false 78 ≡ false
    → Headed (segments_of y p (85 ∷ 78 ∷ 72 ∷ xs))
unfolding segments_of segments_from
headed y p xs a b c = rw (a, b, c) (headed_join y _ _ _ _ _)

module _ (ss : List Segment) (h : Headed ss) where
  -- nothing of them continues a message that is open before them
  pub headed_body : body ss ≡ []
  unfolding body
  headed_body = rw (h.same, h.tag)

  -- the messages after the first are those of the segments after the first
  pub headed_rest : drop 1 (messages_in ss) ≡ messages_in (drop 1 ss)
  unfolding messages_in
  headed_rest = rw (h.same, h.tag)
