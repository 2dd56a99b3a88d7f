-- The number of a price. Document 01, 'Elements': "A price is a signed whole amount and a number of decimals".
use Rattle.std.specs.Prelude.{ℕ, Bool, true, false, ◌&&◌, cond, List, length, leb, ℤ, pos, neg_ℤ, Option, Some, None}
use Rattle.cut.specs.declared.service.Syntax.{Syntax}
use Rattle.value.specs.declared.prices.Amount.{Amount}
use Rattle.value.specs.Numeral.{digits, fraction, minus, is_number, decimal}

-- "-0 is 0": the value behind a minus or not
abbrev pub signed : Bool → ℕ → ℤ
signed true v = neg_ℤ (pos v)
signed false v = pos v

-- "168.06 is 16806 and 2": all digits as one number, signed, and how many of them stand behind the mark; up to fifteen digits
unfoldable pub number_of : Syntax → List ℕ → Option Amount
number_of y s =
    cond (is_number y s && leb (length (digits s)) 15)
    (Some (record { amount = signed (minus s) (decimal (digits s)); decimals = length (fraction s) }))
    None
