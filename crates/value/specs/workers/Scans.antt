-- What the crate's own readers promise each other; no public call cites these.
use Rattle.std.specs.Prelude.{ℕ, ◌+◌, ◌-◌, ◌*◌, ◌^◌, ◌≤◌, ◌<◌, Bool, cond, ◌&&◌, ◌≡◌, List, [], ◌∷◌, ◌++◌, length, get_or, drop, ltb, eqb, Option, Some, None}
use Rattle.cut.specs.declared.service.Syntax.{Syntax}
use Rattle.value.specs.declared.numeral.Run.{Run}
use Rattle.value.specs.declared.numeral.Numeral.{Numeral}
use Rattle.value.specs.Numeral.{some, digits_ahead, behind_digits, minus, unsigned, is_tail, decimal}

-- r is v with the digit x behind it, as long as that has at most sixteen digits
pub record Pushed (v x r : ℕ) : Type 0 where
  pub grown : v < 10 ^ 15 → r ≡ v * 10 + (x - 48)
  pub bounded : r < 10 ^ 16

-- the bytes t behind a byte that was read, if one was
abbrev pub behind_by : Option ℕ → List ℕ → List ℕ
behind_by None t = []
behind_by (Some x) t = x ∷ t

-- r is what the bytes s begin with of digits: how many, their value behind v's digits (n of them), and the first byte that is none; t are left behind that
pub record DigitRun (s : List ℕ) (v : ℕ) (r : Run) (t : List ℕ) : Type 0 where
  pub counted : r.count ≡ length (digits_ahead s)
  pub valued : (n : ℕ) → v < 10 ^ n → n + r.count ≤ 15 → r.value ≡ v * 10 ^ r.count + decimal (digits_ahead s)
  pub bounded : r.value < 10 ^ 16
  pub room : r.count + length t ≤ length s
  pub behind : behind_digits s ≡ behind_by r.behind t

-- a number of n digits, k of them behind the mark: up to fifteen digits are valued, more are only counted
abbrev pub counted_as : Bool → ℕ → ℕ → ℕ → Numeral
counted_as m v n k = record { minus = m; value = cond (ltb 15 n) None (Some v); digits = n; decimals = k }

-- the number with the digits w before and f behind the mark
unfoldable pub numeral_by : Bool → List ℕ → List ℕ → Numeral
numeral_by m w f = counted_as m (decimal (w ++ f)) (length (w ++ f)) (length f)

-- the bytes s, behind a minus or not, as a number
unfoldable pub unsigned_of : Syntax → Bool → List ℕ → Option Numeral
unsigned_of y m s =
    cond (some (digits_ahead s) && is_tail y (behind_digits s))
    (Some (numeral_by m (digits_ahead s) (digits_ahead (drop 1 (behind_digits s)))))
    None

unfoldable pub numeral_of : Syntax → List ℕ → Option Numeral
numeral_of y s = unsigned_of y (minus s) (unsigned s)

-- how many digits a number has; 0 where it is none
abbrev pub digits_of : Option Numeral → ℕ
digits_of (Some n) = n.digits
digits_of None = 0

-- where a number that begins at a begins without its sign
unfoldable pub behind_sign : List ℕ → ℕ → ℕ
behind_sign d a = cond (eqb (get_or d a 0) 45) (a + 1) a
