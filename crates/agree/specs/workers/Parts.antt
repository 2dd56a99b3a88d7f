-- What the workers of the search for a position promise each other.
use Rattle.std.specs.Prelude.{ℕ, zero, suc, ◌≤◌, ◌<◌, ◌≡◌, true, false, cond, List, [], ◌∷◌, Option, Some, None, MatchOption, length}
use Rattle.cut.specs.declared.service.Syntax.{Syntax}
use Rattle.bytewise.specs.Bytes.{part, begins, bytes_of}
use Rattle.cut.specs.Segments.{Segment, segments_at}
use Rattle.element.specs.declared.components.Span.{Span}
use Rattle.sieve.specs.workers.Prints.{part_in}
use Rattle.agree.specs.Agreement.{Heading}
use Rattle.agree.specs.Positions.{next_if, behind_if, heading_from}
use Rattle.agree.specs.declared.headings.Head.{Head}
use Rattle.agree.specs.declared.headings.Entry.{Entry}

-- a position, by its places in the delivery
abbrev pub heading_in : Head → List ℕ → Heading
heading_in h d = record { lin = part h.lin.start h.lin.end d; pia = part_in h.pia d; imd = part_in h.imd d }

-- where what follows a segment begins that may be missing from the place at on
abbrev pub end_or : ℕ → Option Span → ℕ
end_or at None = at
end_or at (Some s) = s.end

-- r is the segment from the place at on, if it has the tag t
pub record Optional (y : Syntax) (d : List ℕ) (at : ℕ) (t : List ℕ) (r : Option Span) : Type 0 where
  pub shows : part_in r d ≡ next_if t (segments_at y d at)
  pub behind : segments_at y d (end_or at r) ≡ behind_if t (segments_at y d at)

-- the positions that begin within the first n of the segments
unfoldable pub headings_in : ℕ → List Segment → List Heading
headings_in zero ss = []
headings_in (suc n) [] = []
headings_in (suc n) (s ∷ ss) = cond (begins (bytes_of "LIN") s.bytes) (heading_from s.bytes ss ∷ headings_in n ss) (headings_in n ss)

-- the segment from a place p up to e begins the position r, if it begins one
abbrev pub BeginsPosition : Syntax → List ℕ → ℕ → ℕ → Option Head → Type 0
BeginsPosition y d p e r =
    MatchOption r (begins (bytes_of "LIN") (part p e d) ≡ false)
    (λ h. (begins (bytes_of "LIN") (part p e d) ≡ true) × (heading_in h d ≡ heading_from (part p e d) (segments_at y d e)))

-- r is the first segment from the place at on
pub record EntryAt (y : Syntax) (d : List ℕ) (at : ℕ) (r : Entry) : Type 0 where
  pub later : at ≤ r.segment.start
  pub some : r.segment.start < r.segment.end
  pub fits : r.segment.end ≤ length d
  pub list :
      segments_at y d at
      ≡ record { start = r.segment.start; bytes = part r.segment.start r.segment.end d; piece = r.segment.piece } ∷ segments_at y d r.segment.end
  pub position : BeginsPosition y d r.segment.start r.segment.end r.position
