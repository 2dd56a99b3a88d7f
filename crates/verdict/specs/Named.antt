-- "The guide named in UNH". Request 1: PRICAT 2.0c is read beside 2.0d, "chosen by DE0057 in UNH".
use Rattle.std.specs.Prelude.{ℕ, cond, List, [], ◌∷◌}
use Rattle.cut.specs.declared.service.Syntax.{Syntax}
use Rattle.bytewise.specs.Bytes.{bytes_of}
use Rattle.messages.specs.Held.{held}
use Rattle.cut.specs.Segments.{Segment, segments_at}
use Rattle.messages.specs.Messages.{Message}
use Rattle.plain.specs.Plain.{same}
use Rattle.guide.specs.Accepted.{segments_of}
use Rattle.guide.specs.Content.{text}
use Rattle.guide.specs.Editions.{guide_of, pages_of}
use Rattle.guide.specs.Nodes.{Guide}
use Rattle.guide.specs.Page.{Page}
use Rattle.guide.specs.declared.edition.Edition.{Edition}
use Rattle.guide.specs.declared.edition.Edition.TheVariants.{D, C}

-- the segments of the message that begins at a place
abbrev pub held_at : Syntax → List ℕ → ℕ → List Segment
held_at y d start = held (segments_at y d start)

module _ (y : Syntax) where
  -- the edition that a segment names in DE0057, releases removed; what names none that is read is judged by 2.0d, whose page refuses it
  unfoldable pub edition_in : List ℕ → Edition
  edition_in bs = cond (same (text y bs 2 4) (bytes_of "2.0c")) C D

  -- the edition that the first of a message's segments names
  unfoldable pub edition_of : List Segment → Edition
  edition_of [] = D
  edition_of (s ∷ ss) = edition_in s.bytes

  -- the guide named in a message's UNH, and its pages
  abbrev pub guide_named : Message → Guide
  guide_named m = guide_of (edition_of (segments_of m))

  abbrev pub pages_named : Message → ℕ → Page
  pages_named m = pages_of (edition_of (segments_of m))
