-- What the workers of the walks promise each other: one segment by its tag, and what it does to a message's end and to a search.
use Rattle.std.specs.Prelude.{ℕ, ◌≤◌, ◌≡◌, Bool, true, false, List, [], ◌∷◌, Option, Some, None, drop}
use Rattle.cut.specs.declared.service.Syntax.{Syntax}
use Rattle.cut.specs.Segments.{Segment, end_of, segments_from, segments_at, last_end, keep_if}
use Rattle.messages.specs.declared.tags.Tag.{Tag}
use Rattle.messages.specs.declared.tags.Tag.TheVariants.{Unh, Unt, Unz, Other}
use Rattle.messages.specs.declared.tags.Spot.{Spot}
use Rattle.messages.specs.declared.found.Message.{Message as Found}
use Rattle.messages.specs.Messages.{Message, tag_of, body}
use Rattle.messages.specs.Calls.{as_found}

-- a message that is open before the segments from i on ends where one does that is open before those from j on, not before i
pub record Skipped (y : Syntax) (d : List ℕ) (i j : ℕ) : Type 0 where
  pub onward : i ≤ j
  pub same : last_end i (body (segments_at y d i)) ≡ last_end j (body (segments_at y d j))

-- a segment found, by its first byte, its tag and the byte after its last
abbrev pub some_spot : ℕ → Tag → ℕ → Option Spot
some_spot s t e = Some (record { start = s; tag = t; end = e })

-- the first of some segments, by its tag
unfoldable pub head_spot : List Segment → Option Spot
head_spot [] = None
head_spot (s ∷ ss) = some_spot s.start (tag_of s.bytes) (end_of s)

-- its tag alone
unfoldable pub first_tag : List Segment → Tag
first_tag [] = Other
first_tag (s ∷ ss) = tag_of s.bytes

-- that of what is cut at a place, line breaks too
unfoldable pub tag_at : Syntax → List ℕ → ℕ → Tag
tag_at y d at = first_tag (segments_from y at false (drop at d))

-- the first of some messages
unfoldable pub head_found : List Message → Option Found
head_found [] = None
head_found (m ∷ ms) = as_found m

abbrev pub is_unh : Tag → Bool
is_unh Unh = true
is_unh Unt = false
is_unh Unz = false
is_unh Other = false

-- whether a message goes on after a segment that follows its first
abbrev pub goes_on : Tag → Bool
goes_on Unh = false
goes_on Unt = false
goes_on Unz = false
goes_on Other = true

-- where it ends if it does not: UNT belongs to it
abbrev pub last_by : Tag → ℕ → ℕ → ℕ
last_by Unh at e = at
last_by Unt at e = e
last_by Unz at e = at
last_by Other at e = at

-- whether a segment is outside; b: a message is open before it
abbrev pub out_by : Tag → Bool → Bool
out_by Unh b = false
out_by Unt true = false
out_by Unt false = true
out_by Unz b = true
out_by Other true = false
out_by Other false = true

-- whether a message is open after a segment
abbrev pub open_by : Tag → Bool → Bool
open_by Unh b = true
open_by Unt b = false
open_by Unz b = false
open_by Other b = b

-- those outside, where b says whether a message is open before them
unfoldable pub left_over : Bool → List Segment → List Segment
left_over b [] = []
left_over b (s ∷ ss) = keep_if (out_by (tag_of s.bytes) b) s (left_over (open_by (tag_of s.bytes) b) ss)
