-- Counts. Document 01, 'Message rules': "Counts and position numbers are digits alone, without leading zeros".
use Rattle.std.specs.Prelude.{ℕ, Bool, false, not, ◌&&◌, cond, List, [], ◌∷◌, length, leb, eqb, Option, Some, None}
use Rattle.value.specs.Numeral.{some, none, behind_digits, decimal}

-- a leading zero is one with another byte behind it: `0` by itself has none
unfoldable pub padded : List ℕ → Bool
padded [] = false
padded (x ∷ []) = false
padded (x ∷ z ∷ zs) = eqb x 48

-- "digits alone, without leading zeros"
unfoldable pub is_count : List ℕ → Bool
is_count s = some s && (none (behind_digits s) && not (padded s))

-- their value, up to fifteen digits
unfoldable pub count_of : List ℕ → Option ℕ
count_of s = cond (is_count s && leb (length s) 15) (Some (decimal s)) None
