-- No refusal has the number 0.
use mathlib.Core.Path.{◌≡◌}
use native.Mathlib.Omega.{arith}
use Rattle.cut.specs.declared.admit.Inadmissible.{Inadmissible}
use Rattle.cut.specs.declared.admit.Inadmissible.TheVariants.{TooLong, Characters}
use Rattle.cut.specs.Admission.{number_of as inadmissible_number}
use Rattle.schaumtruhe.specs.declared.refusal.Refusal.{Refusal}
use Rattle.schaumtruhe.specs.declared.refusal.Refusal.TheVariants.{Delivery, NoMessage, Refused, NoPrice}
use Rattle.schaumtruhe.specs.Refusals.{number_of}

pub some_reason : (e : Inadmissible) → inadmissible_number e ≡ 0 → ⊥
some_reason TooLong h = omega (arith, h)
some_reason Characters h = omega (arith, h)

pub some-number : (e : Refusal) → number_of e ≡ 0 → ⊥
some-number (Delivery e) h = some_reason e h
some-number NoMessage h = omega (arith, h)
some-number Refused h = omega (arith, h)
some-number NoPrice h = omega (arith, h)
