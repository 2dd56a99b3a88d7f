-- Admission of a delivery, UNA and the segments that it holds. Document 01, 'Cutting' and refusals 1 and 2; item 4.
use Rattle.std.specs.Prelude.{ℕ, ◌+◌, Bool, true, false, cond, not, ◌&&◌, List, [], ◌∷◌, ◌++◌, length, drop, eqb, ltb, Result, Ok, Err, ⊤}
use Rattle.cut.specs.declared.service.Syntax.{Syntax}
use Rattle.cut.specs.declared.admit.Inadmissible.{Inadmissible}
use Rattle.cut.specs.declared.admit.Inadmissible.TheVariants.{TooLong, Characters}
use Rattle.bytewise.specs.Bytes.{bytes_of, begins}
use Rattle.cut.specs.Characters.{valid}
use Rattle.cut.specs.Segments.{Segment, segments_at, past_at}

-- "at most 1,048,576 bytes"
abbrev pub limit : ℕ
limit = 1048576

abbrev pub UNA : List ℕ
UNA = bytes_of "UNA"

-- the nine bytes as ISO 9735 orders them; the reserved one is a blank
abbrev pub nine : Syntax → List ℕ
nine y = UNA ++ (y.component ∷ y.element ∷ y.decimal ∷ y.release ∷ bytes_of " " ++ (y.terminator ∷ []))

-- 1: longer than the limit; 2: these characters may not be used, or "begins `UNA`, first nine bytes not those above"; 1 before 2; else 0
unfoldable pub admits : Syntax → ℕ → List ℕ → ℕ
admits y n d = cond (ltb limit n) 1 (cond (valid y) (cond (begins UNA d && not (begins (nine y) d)) 2 0) 2)

-- "its first nine bytes .. are skipped": where the first segment begins
unfoldable pub opens : List ℕ → ℕ
opens d = cond (begins UNA d) 9 0

-- the delivery behind the line breaks at its start: "UNA is looked for after those at the start"
abbrev pub unbroken : Syntax → List ℕ → List ℕ
unbroken y d = drop (past_at y d 0) d

-- whether the delivery is admitted; the limit is that of all its bytes
unfoldable pub admission_of : Syntax → List ℕ → ℕ
admission_of y d = admits y (length d) (unbroken y d)

-- the number of a refusal: 1, "delivery longer than the limit"; 2 for the service characters
abbrev pub number_of : Inadmissible → ℕ
number_of TooLong = 1
number_of Characters = 2

-- the number of an answer: 0 says that the delivery is read
abbrev pub admission_number : Result ⊤ Inadmissible → ℕ
admission_number (Ok u) = 0
admission_number (Err e) = number_of e

-- where its segments are looked for from
unfoldable pub opening_of : Syntax → List ℕ → ℕ
opening_of y d = past_at y d 0 + opens (unbroken y d)

-- the segments if the test holds, else none
abbrev pub only_if : Bool → List Segment → List Segment
only_if true ss = ss
only_if false ss = []

-- the segments of a delivery; none, if it is not admitted
unfoldable pub segments : Syntax → List ℕ → List Segment
segments y d = only_if (eqb (admission_of y d) 0) (segments_at y d (opening_of y d))
