-- Numbers as they are written. Document 01, 'Elements': "an optional `-`, digits, and optionally `.` with digits; at least one
-- digit stands on each side of the mark; sign and mark do not count". All of it on decoded bytes, with y's decimal mark for the `.`.
use Rattle.std.specs.Prelude.{ℕ, ◌+◌, ◌-◌, ◌*◌, ◌^◌, Bool, true, false, cond, ◌&&◌, List, [], ◌∷◌, ◌++◌, length, drop, eqb, leb}
use Rattle.cut.specs.declared.service.Syntax.{Syntax}

-- whether a row has any byte, whether it has none
unfoldable pub some : List ℕ → Bool
some [] = false
some (x ∷ xs) = true

unfoldable pub none : List ℕ → Bool
none [] = true
none (x ∷ xs) = false

-- a digit, `0` to `9`
unfoldable pub is_digit : ℕ → Bool
is_digit x = leb 48 x && leb x 57

-- the digits with which the bytes begin
unfoldable pub digits_ahead : List ℕ → List ℕ
digits_ahead [] = []
digits_ahead (x ∷ xs) = cond (is_digit x) (x ∷ digits_ahead xs) []

-- what stands behind these digits
unfoldable pub behind_digits : List ℕ → List ℕ
behind_digits [] = []
behind_digits (x ∷ xs) = cond (is_digit x) (behind_digits xs) (x ∷ xs)

-- "an optional `-`": whether the bytes begin with it
unfoldable pub minus : List ℕ → Bool
minus [] = false
minus (x ∷ xs) = eqb x 45

-- the bytes without their sign
unfoldable pub unsigned : List ℕ → List ℕ
unsigned [] = []
unsigned (x ∷ xs) = cond (eqb x 45) xs (x ∷ xs)

-- "digits": those before the mark
unfoldable pub whole : List ℕ → List ℕ
whole s = digits_ahead (unsigned s)

-- "optionally `.` with digits": those behind the mark, none where nothing stands behind the whole digits
unfoldable pub fraction : List ℕ → List ℕ
fraction s = digits_ahead (drop 1 (behind_digits (unsigned s)))

-- the digits that count: "sign and mark do not"
unfoldable pub digits : List ℕ → List ℕ
digits s = whole s ++ fraction s

-- what may stand behind the whole digits: nothing, or the mark, digits and nothing more
unfoldable pub is_tail : Syntax → List ℕ → Bool
is_tail y [] = true
is_tail y (x ∷ xs) = eqb x y.decimal && (some (digits_ahead xs) && none (behind_digits xs))

-- whether the bytes are a number: "at least one digit stands on each side of the mark"
unfoldable pub is_number : Syntax → List ℕ → Bool
is_number y s = some (whole s) && is_tail y (behind_digits (unsigned s))

-- how many digits the number has that the bytes are; 0 where they are none
unfoldable pub digit_count : Syntax → List ℕ → ℕ
digit_count y s = cond (is_number y s) (length (digits s)) 0

-- the decimal value of digits: each counts for the power of ten of its place
unfoldable pub decimal : List ℕ → ℕ
decimal [] = 0
decimal (x ∷ xs) = (x - 48) * 10 ^ length xs + decimal xs
