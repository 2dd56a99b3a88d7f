-- The segments of one message, one after the other. Document 01, 'Cutting': "The message runs through the next segment that begins `UNT`, or
-- stops before the next one that begins `UNH` or `UNZ`, or at the end".
use Rattle.std.specs.Prelude.{ℕ, Bool, true, false, cond, List, [], ◌∷◌, Option, Some, None}
use Rattle.messages.specs.declared.tags.Tag.{Tag}
use Rattle.messages.specs.declared.tags.Tag.TheVariants.{Unh, Unt, Unz, Other}
use Rattle.messages.specs.declared.head.Head.{Head}
use Rattle.messages.specs.declared.outer.Outer.{Outer}
use Rattle.messages.specs.declared.outer.Outer.TheVariants as outer
use Rattle.cut.specs.Segments.{Segment, end_of}
use Rattle.messages.specs.Messages.{tag_of, body}

abbrev pub is_unt : Tag → Bool
is_unt Unh = false
is_unt Unt = true
is_unt Unz = false
is_unt Other = false

-- whether a segment belongs to the message that is open before it; b: it is the one that begins the message
abbrev pub belongs : Bool → Tag → Bool
belongs b Unh = b
belongs b Unt = true
belongs b Unz = b
belongs b Other = true

abbrev pub unless : Bool → List Segment → List Segment
unless true ss = []
unless false ss = ss

-- the segments of the message that the first of some segments begins
unfoldable pub held : List Segment → List Segment
held [] = []
held (s ∷ ss) = s ∷ unless (is_unt (tag_of s.bytes)) (body ss)

-- what of some segments belongs to a message: the first of them begins it, or it is open before them
abbrev pub members : Bool → List Segment → List Segment
members true ss = held ss
members false ss = body ss

-- a segment of the message, by its first byte and whether it is the UNT
abbrev pub some_head : ℕ → Bool → Option Head
some_head p l = Some (record { place = p; last = l })

-- head_at: whether the message has a segment that is the first of these, where that begins, and whether it is the UNT
unfoldable pub head_in : Bool → List Segment → Option Head
head_in b [] = None
head_in b (s ∷ ss) = cond (belongs b (tag_of s.bytes)) (some_head s.start (is_unt (tag_of s.bytes))) None

-- a segment that lies in no message, by its tag; "A segment whose first three bytes are `UNH` begins a message"
abbrev pub outer_by : Tag → ℕ → Outer
outer_by Unh e = outer.Message
outer_by Unt e = outer.Segment e
outer_by Unz e = outer.Segment e
outer_by Other e = outer.Segment e

-- outer_at: what some segments begin with, where no message is open before them
unfoldable pub head_outer : List Segment → Option Outer
head_outer [] = None
head_outer (s ∷ ss) = Some (outer_by (tag_of s.bytes) (end_of s))
