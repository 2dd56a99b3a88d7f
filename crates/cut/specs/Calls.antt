-- What each public call answers, for every delivery and every place.
use Rattle.std.specs.Prelude.{ℕ, zero, suc, min, max, Bool, false, cond, ◌&&◌, Option, Some, None, List, [], ◌∷◌, length, get_or, drop, eqb, ltb}
use Rattle.cut.specs.declared.service.Syntax.{Syntax}
use Rattle.cut.specs.declared.scan.Cut.{Cut}
use Rattle.cut.specs.declared.steps.Cursor.{Cursor}
use Rattle.cut.specs.Segments.{Segment, end_of, segments_from, is_break, segments_at, begins_in}
use Rattle.cut.specs.Admission.{admission_of, opening_of, segments}
use Rattle.cut.specs.Used.{characters_of}

-- a segment as an answer: its start, its end and whether it is a piece
abbrev pub some_cut : ℕ → ℕ → Bool → Option Cut
some_cut s e p = Some (record { start = s; end = e; piece = p })

-- the first of some segments, as an answer
unfoldable pub head_cut : List Segment → Option Cut
head_cut [] = None
head_cut (s ∷ ss) = some_cut s.start (end_of s) s.piece

-- what the bytes from a place on begin with; r says that the first of them is released
unfoldable pub cut_from : Syntax → List ℕ → ℕ → Bool → Option Cut
cut_from y d at r = head_cut (segments_from y at r (drop at d))

-- cut_at: the segment that is cut from its own first byte on
abbrev pub cut_at : Syntax → List ℕ → ℕ → Option Cut
cut_at y d at = cut_from y d at false

-- segment_at: the first of the segments from a place on; nothing, if there is none
unfoldable pub segment_at : Syntax → List ℕ → ℕ → Option Cut
segment_at y d at = head_cut (segments_at y d at)

-- the place before the line breaks that end at a place, not before the place f
unfoldable pub back : Syntax → List ℕ → ℕ → ℕ → ℕ
back y d f zero = zero
back y d f (suc n) = cond (ltb f (suc n) && is_break y (get_or d n 0)) (back y d f n) (suc n)

-- before_breaks: from a place, or from the delivery's end if that comes first
abbrev pub back_at : Syntax → List ℕ → ℕ → ℕ → ℕ
back_at y d f at = back y d f (min at (length d))

-- a segment as a step, with the cursor after it
abbrev pub stepped : Syntax → Option Cut → Option (Cut × Cursor)
stepped y (Some k) = Some (k, record { syntax = y; at = k.end })
stepped y None = None

-- the same from a segment's three and the cursor
abbrev pub some_step : ℕ → ℕ → Bool → Cursor → Option (Cut × Cursor)
some_step s e p n = Some (record { start = s; end = e; piece = p }, n)

-- Cursor::opened: before the first segment, with the characters that the delivery is read with
abbrev pub opened_on : Syntax → List ℕ → Cursor
opened_on y d = record { syntax = characters_of y d; at = 0 }

-- Cursor::step: the segment from the cursor's place on, a place before the first or within UNA being before the first; nothing, if the delivery is not admitted
unfoldable pub step_of : Cursor → List ℕ → Option (Cut × Cursor)
step_of c d =
    cond (eqb (admission_of c.syntax d) 0) (stepped c.syntax (segment_at c.syntax d (max c.at (opening_of c.syntax d)))) None

-- begins_segment: whether one of the delivery's segments begins at a place
unfoldable pub begins_segment : Syntax → List ℕ → ℕ → Bool
begins_segment y d at = begins_in at (segments y d)
