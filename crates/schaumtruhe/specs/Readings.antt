-- The two readings that a caller asks for by name, and the characters that a delivery is read with. Items 4 and 6.
use Rattle.std.specs.Prelude.{ℕ, List}
use Rattle.cut.specs.declared.service.Syntax.{Syntax}
use Rattle.cut.specs.Used.{characters_of}
use Rattle.cut.specs.Base.{edifact, strictly}
use Rattle.schaumtruhe.specs.declared.reading.Reading.{Reading}

-- "the usual case"
abbrev pub usual_reading : Reading
usual_reading = record { syntax = edifact }

-- "the strict reading"
abbrev pub strict_reading : Reading
strict_reading = record { syntax = strictly edifact }

-- the service characters that a delivery is read with
abbrev pub used_in : Reading → List ℕ → Syntax
used_in how d = characters_of how.syntax d
