-- `value::numeral::pushed` meets its contract: a digit is at most 9, so ten times the value and it are below 10 ^ 16.
use mathlib.Core.Path.{refl}
use native.Mathlib.Omega.{arith}
use Rattle.value.proofs.Digitwise.{digit_range}
use Rattle.value.proofs.numeral.pushed.Goals as goal

pub overflow_sub-result : goal.overflow_sub-result
overflow_sub-result c =
    let r = digit_range _ c.requires.x_value in
    omega arith

pub returns-then-value-lt1000000000000000 : goal.returns-then-value-lt1000000000000000
returns-then-value-lt1000000000000000 c =
    let r = digit_range _ c.requires.x_value in
    record { grown = λ _. refl; bounded = omega arith }

pub returns : goal.returns
returns c = record { grown = λ h. absurd (omega arith); bounded = omega arith }
