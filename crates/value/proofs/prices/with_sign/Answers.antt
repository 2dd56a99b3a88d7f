-- `value::prices::with_sign` meets its contract: fifteen digits fit an i64 with either sign.
use native.Mathlib.Omega.{arith}
use mir.Syntax.{w64}
use mir.Facts.{to_z-of_z, to_z_pos}
use Rattle.value.proofs.Signs.{minus-fits, minus_is}
use Rattle.value.proofs.prices.with_sign.Goals as goal

pub overflow_sub-result : goal.overflow_sub-result
overflow_sub-result c = rw (minus_is c.args.value (omega arith)) (minus-fits c.args.value (omega arith))

pub returns-then-minus : goal.returns-then-minus
returns-then-minus c =
    rw
    (c.if-minus.true, minus_is c.args.value (omega arith))
    (to_z-of_z (minus-fits c.args.value (omega arith)))

pub returns : goal.returns
returns c = rw c.if-minus.false (to_z_pos w64 (omega arith))
