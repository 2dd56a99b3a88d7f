-- Document 01's examples and its page of readings, as theorems at the service characters `:+.?'`.
use mathlib.Core.Bool.{false}
use mathlib.Core.Path.{◌≡◌, refl}
use mathlib.Core.List.{[], ◌∷◌}
use lib.IntN.{pos, negsuc}
use Rattle.cut.specs.Base.{edifact}
use Rattle.cut.specs.Segments.{frees}
use Rattle.std.specs.Prelude.{Some}
use Rattle.plain.specs.Plain.{plain, unless_mark}
use Rattle.value.specs.Numeral.{some, none, is_digit, digits_ahead, behind_digits, minus, unsigned, whole, fraction, digits, is_tail, is_number, decimal}
use Rattle.value.specs.Number.{number_of}
use Rattle.value.specs.Text.{digits_in, text_of}

-- "168.06 is 16806 and 2"
price : number_of edifact (49 ∷ 54 ∷ 56 ∷ 46 ∷ 48 ∷ 54 ∷ []) ≡ Some (record { amount = pos 16806; decimals = 2 })
unfolding number_of is_number digits whole fraction minus unsigned digits_ahead behind_digits is_tail is_digit some none decimal
price = refl

-- "-0 is 0 and 0"; "-0.00 is 0 and 2"
zero-signed : number_of edifact (45 ∷ 48 ∷ []) ≡ Some (record { amount = pos 0; decimals = 0 })
unfolding number_of is_number digits whole fraction minus unsigned digits_ahead behind_digits is_tail is_digit some none decimal
zero-signed = refl

zero-decimals : number_of edifact (45 ∷ 48 ∷ 46 ∷ 48 ∷ 48 ∷ []) ≡ Some (record { amount = pos 0; decimals = 2 })
unfolding number_of is_number digits whole fraction minus unsigned digits_ahead behind_digits is_tail is_digit some none decimal
zero-decimals = refl

-- `.5`, `5.`, `-` and `1.2.3` are no numbers
no_whole : is_number edifact (46 ∷ 53 ∷ []) ≡ false
unfolding is_number whole unsigned digits_ahead behind_digits is_tail is_digit some none
no_whole = refl

no_fraction : is_number edifact (53 ∷ 46 ∷ []) ≡ false
unfolding is_number whole unsigned digits_ahead behind_digits is_tail is_digit some none
no_fraction = refl

sign_alone : is_number edifact (45 ∷ []) ≡ false
unfolding is_number whole unsigned digits_ahead behind_digits is_tail is_digit some none
sign_alone = refl

two_marks : is_number edifact (49 ∷ 46 ∷ 50 ∷ 46 ∷ 51 ∷ []) ≡ false
unfolding is_number whole unsigned digits_ahead behind_digits is_tail is_digit some none
two_marks = refl

-- `1?.5` is 1.5 once the release mark is removed; `A??B` has a literal `?`
released_mark : plain edifact false (49 ∷ 63 ∷ 46 ∷ 53 ∷ []) ≡ 49 ∷ 46 ∷ 53 ∷ []
unfolding plain frees unless_mark
released_mark = refl

released_release : plain edifact false (65 ∷ 63 ∷ 63 ∷ 66 ∷ []) ≡ 65 ∷ 63 ∷ 66 ∷ []
unfolding plain frees unless_mark
released_release = refl

-- the least i64 in full
least : text_of (negsuc 9223372036854775807) ≡ 45 ∷ 57 ∷ 50 ∷ 50 ∷ 51 ∷ 51 ∷ 55 ∷ 50 ∷ 48 ∷ 51 ∷ 54 ∷ 56 ∷ 53 ∷ 52 ∷ 55 ∷ 55 ∷ 53 ∷ 56 ∷ 48 ∷ 56 ∷ []
unfolding text_of digits_in
least = refl
