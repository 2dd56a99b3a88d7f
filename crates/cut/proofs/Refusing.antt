-- An answer of `admission` and its number: 0 is that of a delivery that is read, and of no other.
use mathlib.Core.Path.{◌≡◌, refl}
use mathlib.Core.Bool.{true, false, true≢false, false≢true}
use native.Mathlib.Omega.{arith}
use Rattle.std.specs.Prelude.{Result, Ok, Err, Some, None, is_err, ⊤}
use Rattle.std.specs.Result.{result_ok}
use Rattle.cut.specs.declared.admit.Inadmissible.{Inadmissible}
use Rattle.cut.specs.declared.admit.Inadmissible.TheVariants.{TooLong, Characters}
use Rattle.cut.specs.Admission.{number_of, admission_number}

pub number-some : (e : Inadmissible) → number_of e ≡ 0 → ⊥
number-some TooLong h = omega arith
number-some Characters h = omega arith

pub read : (r : Result ⊤ Inadmissible) → is_err r ≡ false → admission_number r ≡ 0
read (Ok u) h = refl
read (Err e) h = absurd (true≢false h)

pub not-read : (r : Result ⊤ Inadmissible) → is_err r ≡ true → admission_number r ≡ 0 → ⊥
not-read (Ok u) h = absurd (false≢true h)
not-read (Err e) h = number-some e

-- the same of what `ok` makes of it
pub read_some : (r : Result ⊤ Inadmissible) (u : ⊤) → result_ok r ≡ Some u → admission_number r ≡ 0
read_some (Ok t) u h = refl
read_some (Err e) u h = cc

pub read_none : (r : Result ⊤ Inadmissible) → result_ok r ≡ None → admission_number r ≡ 0 → ⊥
read_none (Ok t) h = cc
read_none (Err e) h = number-some e
