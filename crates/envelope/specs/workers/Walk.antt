-- What the workers of the walk promise each other: what is kept of the segments that are passed.
use Rattle.std.specs.Prelude.{ℕ, ◌+◌, ◌≤◌, Bool, true, false, cond, List, [], ◌∷◌, Option, Some, None, ◌≡◌, length}
use Rattle.bytewise.specs.Bytes.{part}
use Rattle.cut.specs.declared.service.Syntax.{Syntax}
use Rattle.cut.specs.declared.scan.Cut.{Cut}
use Rattle.cut.specs.Segments.{Segment, end_of, segments_at}
use Rattle.messages.specs.declared.tags.Tag.{Tag}
use Rattle.messages.specs.declared.tags.Tag.TheVariants.{Unh, Unt, Unz, Other}
use Rattle.messages.specs.Messages.{tag_of}
use Rattle.messages.specs.workers.Walks.{is_unh}
use Rattle.envelope.specs.declared.walking.Role.{Role}
use Rattle.envelope.specs.declared.walking.Role.TheVariants.{First, Begins, Within, Ends, Outside}
use Rattle.envelope.specs.declared.walking.Walk.{Walk}
use Rattle.envelope.specs.Envelope.{last_of}

-- the segment that stands in a delivery from one place up to another
abbrev pub segment_in : List ℕ → ℕ → ℕ → Bool → Segment
segment_in d start end piece = record { start = start; bytes = part start end d; piece = piece }

-- the same of a segment cut
abbrev pub cut_in : List ℕ → Cut → Segment
cut_in d c = segment_in d c.start c.end c.piece

-- whether a message is open behind a segment with this role
abbrev pub is_within : Role → Bool
is_within First = false
is_within Begins = true
is_within Within = true
is_within Ends = false
is_within Outside = false

abbrev pub is_outside : Role → Bool
is_outside First = false
is_outside Begins = false
is_outside Within = false
is_outside Ends = false
is_outside Outside = true

-- what a segment is by its tag, where b says whether a message is open before it
abbrev pub role_of : Tag → Bool → Role
role_of Unh b = Begins
role_of Unt true = Ends
role_of Unt false = Outside
role_of Unz b = Outside
role_of Other true = Within
role_of Other false = Outside

abbrev pub one_more : Bool → ℕ → ℕ
one_more b n = cond b (n + 1) n

-- the stray that is kept once a segment is passed that is one, if b holds
abbrev pub stray_after : Bool → ℕ → Option ℕ → Option ℕ
stray_after b start None = cond b (Some start) None
stray_after b start (Some p) = Some p

-- one segment more
unfoldable pub passed : Walk → Segment → Walk
passed w s =
    record {
      messages = one_more (is_unh (tag_of s.bytes)) w.messages;
      stray = stray_after (is_outside w.role) w.last.start w.stray;
      last = record { start = s.start; end = end_of s; piece = s.piece };
      role = role_of (tag_of s.bytes) (is_within w.role);
    }

-- all of some segments
unfoldable pub passed_all : Walk → List Segment → Walk
passed_all w [] = w
passed_all w (s ∷ ss) = passed_all (passed w s) ss

-- before the segments behind the first, which is whole and begins no message
abbrev pub opened : ℕ → ℕ → Walk
opened start end = record { messages = 0; stray = None; last = record { start = start; end = end; piece = false }; role = First }

-- the last segment passed
abbrev pub last_in : List ℕ → Walk → Segment
last_in d w = cut_in d w.last

-- all segments are passed behind the first, which stands from start to end
pub record Walked (y : Syntax) (d : List ℕ) (start end : ℕ) (w : Walk) : Type 0 where
  pub walk : w ≡ passed_all (opened start end) (segments_at y d end)
  pub last : last_in d w ≡ last_of (segment_in d start end false) (segments_at y d end)
  pub onward : w.last.start ≤ w.last.end
  pub fits : w.last.end ≤ length d
