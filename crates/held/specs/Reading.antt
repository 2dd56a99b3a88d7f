-- The reader that holds the delivery, how it is cut and its place. Document 01, 'What is handed out'; items 4 and 6.
use Rattle.std.specs.Prelude.{ℕ, zero, suc, Option, Some, None, List, [], ◌∷◌, drop}
use Rattle.std.specs.Borrow.{Bor}
use Rattle.cut.specs.declared.service.Syntax.{Syntax}
use Rattle.cut.specs.declared.scan.Cut.{Cut}
use Rattle.cut.specs.declared.steps.Cursor.{Cursor}
use Rattle.cut.specs.Segments.{Segment, end_of}
use Rattle.cut.specs.Admission.{segments}
use Rattle.cut.specs.Used.{characters_of}
use Rattle.cut.specs.Calls.{some_cut, head_cut, step_of}
use Rattle.held.specs.declared.reader.Reader.{Reader}

-- "the next segment's start, end and whether it is a piece, or none"
abbrev pub as_cut : Option (Cut × Cursor) → Option Cut
as_cut (Some k) = Some k.0
as_cut None = None

-- step_from: the segment from a place on, as the by-value cursor with the delivery's own characters steps to it: a place within UNA is before the
-- first, and "on a delivery not admitted, none at once"
unfoldable pub next_from : Syntax → List ℕ → ℕ → Option Cut
next_from y d at = as_cut (step_of (record { syntax = characters_of y d; at = at }) d)

-- the place after a step from the place `at`: the segment's end; at none the place stays
unfoldable pub place_after : Option Cut → ℕ → ℕ
place_after (Some k) at = k.end
place_after None at = at

-- opened: "A reader that holds the delivery and its place", before the first segment
abbrev pub reader_on : Syntax → Bor (List ℕ) → Reader
reader_on y d = record { syntax = y; delivery = d; at = 0 }

-- step: "each step gives the next segment"
unfoldable pub answer_of : Reader → Option Cut
answer_of r = next_from r.syntax r.delivery.now r.at

-- step: the reader after it holds the same delivery and cuts it alike
unfoldable pub moved_on : Reader → Reader
moved_on r = record { syntax = r.syntax; delivery = r.delivery; at = place_after (answer_of r) r.at }

-- the reader after n steps
unfoldable pub moved_by : ℕ → Reader → Reader
moved_by zero r = r
moved_by (suc n) r = moved_by n (moved_on r)

-- what n steps answer, one after the other
unfoldable pub answers : ℕ → Reader → List (Option Cut)
answers zero r = []
answers (suc n) r = answer_of r ∷ answers n (moved_on r)

-- what n calls of step_from answer, the first from the place `at`, each other from the place after the one before
unfoldable pub answers_from : ℕ → Syntax → List ℕ → ℕ → List (Option Cut)
answers_from zero y d at = []
answers_from (suc n) y d at = next_from y d at ∷ answers_from n y d (place_after (next_from y d at) at)

-- a segment as an answer: its start, its end and whether it is a piece
abbrev pub segment_cut : Segment → Option Cut
segment_cut s = some_cut s.start (end_of s) s.piece

-- the segment with the number n, from 0; none past the last
abbrev pub segment_no : Syntax → List ℕ → ℕ → Option Cut
segment_no y d n = head_cut (drop n (segments (characters_of y d) d))
