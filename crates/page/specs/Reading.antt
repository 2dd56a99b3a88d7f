-- What is read of the segment that begins at a place: its end, and its first fault, or where the components stand that the rules of a message ask for.
use Rattle.std.specs.Prelude.{ℕ, Bool, List, Option, Some, None, Result, Ok, Err}
use Rattle.bytewise.specs.Bytes.{part}
use Rattle.cut.specs.Calls.{cut_at}
use Rattle.cut.specs.Segments.{Segment as Piece}
use Rattle.cut.specs.declared.scan.Cut.{Cut}
use Rattle.cut.specs.declared.service.Syntax.{Syntax}
use Rattle.element.specs.Components.{component_at}
use Rattle.element.specs.declared.components.Span.{Span}
use Rattle.guide.specs.Choices.{or_else}
use Rattle.guide.specs.Editions.{pages_of}
use Rattle.guide.specs.Reasons.{number_of_reason}
use Rattle.guide.specs.workers.Judging.{bytes_fault}
use Rattle.guide.specs.workers.PageFault.{page_fault}
use Rattle.guide.specs.declared.edition.Edition.{Edition}
use Rattle.page.specs.Examined.{examined_by}
use Rattle.page.specs.declared.places.Places.{Places}
use Rattle.page.specs.declared.reads.Reading.{Reading}
use Rattle.page.specs.declared.reads.Faulty.{Faulty}

-- the segment from a place up to another
abbrev pub segment_in : ℕ → ℕ → Bool → List ℕ → Piece
segment_in a e p d = record { start = a; bytes = part a e d; piece = p }

-- the number of a fault, and the byte after the segment
pub record Numbered : Type 0 where
  pub number : ℕ
  pub end : ℕ

abbrev pub numbered_at : ℕ → ℕ → Numbered
numbered_at k e = record { number = k; end = e }

-- what is read, with the number in place of the reason
abbrev pub numbers_of : Result Reading Faulty → Result Reading Numbered
numbers_of (Ok r) = Ok r
numbers_of (Err f) = Err (numbered_at (number_of_reason f.reason) f.end)

-- what is said of a segment, with its end
abbrev pub read_to : ℕ → Result Places ℕ → Result Reading Numbered
read_to e (Ok p) = Ok (record { first = p.first; third = p.third; end = e })
read_to e (Err k) = Err (numbered_at k e)

-- the empty part at a place
abbrev pub empty_at : ℕ → Span
empty_at a = record { start = a; end = a }

module _ (y : Syntax) (ed : Edition) (node : ℕ) (d : List ℕ) (start : ℕ) where
  -- "12, 10, 11, .. then components left to right", against the node's page; 0 if none
  unfoldable pub read_fault : ℕ → Bool → ℕ
  read_fault e p = or_else (bytes_fault y (segment_in start e p d)) (page_fault y (pages_of ed node) (part start e d))

  -- what is read where the bytes are cut so; without a byte it is 12, and ends where it begins
  unfoldable pub reading_by : Option Cut → Result Reading Numbered
  reading_by None = Err (numbered_at 12 start)
  reading_by (Some k) = read_to k.end (examined_by (read_fault k.end k.piece) (component_at y d start k.end 1 0) (component_at y d start k.end 3 0))

  -- read: the segment that the bytes from the place on begin with
  unfoldable pub reading_of : Result Reading Numbered
  reading_of = reading_by (cut_at y d start)
