-- The service characters that a delivery is read with. Item 6.
use Rattle.std.specs.Prelude.{ℕ, cond, List, get_or}
use Rattle.cut.specs.declared.service.Syntax.{Syntax}
use Rattle.bytewise.specs.Bytes.{begins}
use Rattle.cut.specs.Admission.{UNA, unbroken}

-- "Honour the nine bytes as ISO 9735 orders them": the five that bytes which begin UNA name; 0 where there is no byte
unfoldable pub named : Syntax → List ℕ → Syntax
named y u =
    record {
      component = get_or u 3 0;
      element = get_or u 4 0;
      decimal = get_or u 5 0;
      release = get_or u 6 0;
      terminator = get_or u 8 0;
      skips = y.skips;
    }

-- the usual characters, with line breaks skipped or not: UNA is looked for before the delivery's own characters are known
abbrev pub plainly : Syntax → Syntax
plainly y = record { component = 58; element = 43; decimal = 46; release = 63; terminator = 39; skips = y.skips }

-- the delivery from where UNA is looked for
abbrev pub una_place : Syntax → List ℕ → List ℕ
una_place y d = unbroken (plainly y) d

-- those of UNA, or "the characters for a delivery without UNA" that are handed in
unfoldable pub characters_of : Syntax → List ℕ → Syntax
characters_of y d = cond (begins UNA (una_place y d)) (named y (una_place y d)) y
