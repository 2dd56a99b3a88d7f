-- What of UNB and UNZ is looked at. Item 8, "by ISO 9735 syntax version 3".
use Rattle.std.specs.Prelude.{ℕ, false, List, [], ◌∷◌}
use Rattle.bytewise.specs.Bytes.{bytes_of}
use Rattle.cut.specs.declared.service.Syntax.{Syntax}
use Rattle.cut.specs.Segments.{Segment}
use Rattle.element.specs.Elements.{component}
use Rattle.plain.specs.Plain.{plain}

abbrev pub UNB : List ℕ
UNB = bytes_of "UNB"

abbrev pub UNZ : List ℕ
UNZ = bytes_of "UNZ"

-- which component of a segment: the number of its element, where 0 is the tag, and its own in the element, from 0
pub record Place : Type 0 where
  pub element : ℕ
  pub component : ℕ

abbrev pub at : ℕ → ℕ → Place
at e c = record { element = e; component = c }

-- "Required are DE0001, 0002, 0004, 0010, 0017, 0019 and 0020 in UNB": S001's two, the first of S002 and of S003, S004's two, 0020
abbrev pub in_UNB : List Place
in_UNB = at 1 0 ∷ at 1 1 ∷ at 2 0 ∷ at 3 0 ∷ at 4 0 ∷ at 4 1 ∷ at 5 0 ∷ []

-- "0036 and 0020 in UNZ"
abbrev pub in_UNZ : List Place
in_UNZ = at 1 0 ∷ at 2 0 ∷ []

-- a component of a segment, releases removed; a missing one is empty
abbrev pub text : Syntax → Segment → Place → List ℕ
text y s k = plain y false (component y s.bytes k.element k.component)
