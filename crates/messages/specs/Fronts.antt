-- What demand 3 speaks of, for messages: places moved by a front's length, and the messages that begin in a front.
use Rattle.std.specs.Prelude.{ℕ, List, [], ◌∷◌, ◌++◌, map}
use Rattle.cut.specs.Segments.{Segment}
use Rattle.cut.specs.Fronts.{moved}
use Rattle.messages.specs.Messages.{Message, tag_of, body, begin}

-- the same message k places later
abbrev pub moved_message : ℕ → Message → Message
moved_message k m = record { first = moved k m.first; rest = map (moved k) m.rest }

-- the messages that begin in ss, where ts follow
unfoldable pub begun_in : List Segment → List Segment → List Message
begun_in [] ts = []
begun_in (s ∷ ss) ts = begin (tag_of s.bytes) (record { first = s; rest = body (ss ++ ts) }) (begun_in ss ts)
