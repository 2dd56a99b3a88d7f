-- What the workers of 50 to 55 promise each other.
use Rattle.std.specs.Prelude.{ℕ, ◌≤◌, ◌<◌, Bool, true, false, cond, not, List, ◌∷◌, Option, Some, None, ◌≡◌, length}
use Rattle.bytewise.specs.Bytes.{part, begins}
use Rattle.cut.specs.declared.service.Syntax.{Syntax}
use Rattle.cut.specs.Segments.{Segment, segments_at}
use Rattle.cut.specs.Admission.{admission_of, segments}
use Rattle.plain.specs.Plain.{same}
use Rattle.envelope.specs.declared.walking.Walk.{Walk}
use Rattle.envelope.specs.Required.{UNB, Place, at, in_UNB, text}
use Rattle.envelope.specs.Envelope.{Enveloped, Complete, Refused, counts, lacks}
use Rattle.envelope.specs.workers.Walk.{segment_in}

-- a whole segment, from one place up to another
abbrev pub whole_in : List ℕ → ℕ → ℕ → Segment
whole_in d start end = segment_in d start end false

-- one of its components, releases removed
abbrev pub text_in : Syntax → List ℕ → ℕ → ℕ → Place → List ℕ
text_in y d start end k = text y (whole_in d start end) k

-- a row before those that come after it
abbrev pub row_of : Bool → ℕ → ℕ → Enveloped → Enveloped
row_of broken number place rest = cond broken (Refused number place) rest

-- 54 before those that come after it
abbrev pub or_place : Option ℕ → Enveloped → Enveloped
or_place None rest = rest
or_place (Some place) rest = Refused 54 place

-- the first of 52 to 55; a UNZ that lacks a component does not come so far
abbrev pub first_row : Bool → Bool → Option ℕ → Bool → ℕ → ℕ → Enveloped
first_row agrees counted stray lacking unb unz =
    row_of (not agrees) 52 unz (row_of (not counted) 53 unz (or_place stray (row_of lacking 55 unb Complete)))

-- the same of what a walk has kept behind a UNB that stands from start to end
abbrev pub rows_of : Syntax → List ℕ → ℕ → ℕ → Walk → Enveloped
rows_of y d start end w =
    first_row (same (text_in y d start end (at 5 0)) (text_in y d w.last.start w.last.end (at 2 0)))
    (counts (text_in y d w.last.start w.last.end (at 1 0)) w.messages) w.stray (lacks y (whole_in d start end) in_UNB) start w.last.start

-- an admitted delivery's first segment is UNB and stands from start to end
pub record Opened (y : Syntax) (d : List ℕ) (start end : ℕ) : Type 0 where
  pub admitted : admission_of y d ≡ 0
  pub some : start < end
  pub fits : end ≤ length d
  pub first : segments y d ≡ whole_in d start end ∷ segments_at y d end
  pub tag : begins UNB (part start end d) ≡ true
