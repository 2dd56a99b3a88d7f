-- Which service characters may be used. Item 6.
use Rattle.std.specs.Prelude.{ℕ, Bool, true, false, not, ◌&&◌, ◌||◌, List, [], ◌∷◌, eqb, leb}
use Rattle.cut.specs.declared.service.Syntax.{Syntax}

-- whether x is one of the numbers from a to b
unfoldable pub between : ℕ → ℕ → ℕ → Bool
between a b x = leb a x && leb x b

-- document 01: "Allowed bytes: 32 to 126 and 160 to 255"
unfoldable pub allowed_byte : ℕ → Bool
allowed_byte x = between 32 126 x || between 160 255 x

-- "allowed bytes, and no ASCII letter, digit, blank or minus"
unfoldable pub may_serve : ℕ → Bool
may_serve x = allowed_byte x && not (between 65 90 x || (between 97 122 x || (between 48 57 x || (eqb x 32 || eqb x 45))))

-- the five service characters
abbrev pub service : Syntax → List ℕ
service y = y.component ∷ y.element ∷ y.decimal ∷ y.release ∷ y.terminator ∷ []

-- whether x is one of xs
unfoldable pub has : ℕ → List ℕ → Bool
has x [] = false
has x (z ∷ zs) = eqb x z || has x zs

unfoldable pub all_serve : List ℕ → Bool
all_serve [] = true
all_serve (x ∷ xs) = may_serve x && all_serve xs

-- no two of them are equal
unfoldable pub distinct : List ℕ → Bool
distinct [] = true
distinct (x ∷ xs) = not (has x xs) && distinct xs

-- "The five used must be distinct, allowed bytes, and no ASCII letter, digit, blank or minus"
unfoldable pub valid : Syntax → Bool
valid y = all_serve (service y) && distinct (service y)
