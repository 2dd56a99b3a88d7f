-- Messages and what stands outside them. Document 01, 'Cutting'.
use Rattle.std.specs.Prelude.{ℕ, cond, not, List, [], ◌∷◌, ◌++◌}
use Rattle.cut.specs.declared.service.Syntax.{Syntax}
use Rattle.messages.specs.declared.tags.Tag.{Tag}
use Rattle.messages.specs.declared.tags.Tag.TheVariants.{Unh, Unt, Unz, Other}
use Rattle.bytewise.specs.Bytes.{bytes_of, begins}
use Rattle.cut.specs.Segments.{Segment, end_of, last_end, begins_in, keep_if}
use Rattle.cut.specs.Admission.{segments}

-- what a segment's first three bytes say
unfoldable pub tag_of : List ℕ → Tag
tag_of bs =
    cond (begins (bytes_of "UNH") bs) Unh
    (cond (begins (bytes_of "UNT") bs) Unt
    (cond (begins (bytes_of "UNZ") bs) Unz Other))

-- the segment that begins it, and those that follow in it
pub record Message : Type 0 where
  pub first : Segment
  pub rest : List Segment

-- its first byte's place
abbrev pub start_of : Message → ℕ
start_of m = m.first.start

-- the place after its last byte: where its last segment ends
abbrev pub close_of : Message → ℕ
close_of m = last_end (end_of m.first) m.rest

-- what of a segment and those after it belongs to the message that is open before it
abbrev pub follow : Tag → Segment → List Segment → List Segment
follow Unh s ss = []
follow Unt s ss = s ∷ []
follow Unz s ss = []
follow Other s ss = s ∷ ss

-- "The message runs through the next segment that begins `UNT`, or stops before the next one that begins `UNH` or `UNZ`, or at the end"
unfoldable pub body : List Segment → List Segment
body [] = []
body (s ∷ ss) = follow (tag_of s.bytes) s (body ss)

-- the message that a segment begins, if it begins one, before those that begin later
abbrev pub begin : Tag → Message → List Message → List Message
begin Unh m ms = m ∷ ms
begin Unt m ms = ms
begin Unz m ms = ms
begin Other m ms = ms

-- "A segment whose first three bytes are `UNH` begins a message"
unfoldable pub messages_in : List Segment → List Message
messages_in [] = []
messages_in (s ∷ ss) = begin (tag_of s.bytes) (record { first = s; rest = body ss }) (messages_in ss)

-- the messages of a delivery
unfoldable pub messages : Syntax → List ℕ → List Message
messages y d = messages_in (segments y d)

-- the segments of all messages
unfoldable pub inside : List Message → List Segment
inside [] = []
inside (m ∷ ms) = (m.first ∷ m.rest) ++ inside ms

-- those of ss that begin where none of `is` does
unfoldable pub others : List Segment → List Segment → List Segment
others is [] = []
others is (s ∷ ss) = keep_if (not (begins_in s.start is)) s (others is ss)

-- "Every other segment, piece included, is outside"
unfoldable pub outside_in : List Segment → List Segment
outside_in ss = others (inside (messages_in ss)) ss

-- what is outside in a delivery
unfoldable pub outside : Syntax → List ℕ → List Segment
outside y d = outside_in (segments y d)
