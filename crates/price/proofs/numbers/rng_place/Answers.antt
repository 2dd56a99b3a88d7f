-- `price::numbers::rng_place` meets its contract.
use native.Mathlib.Omega.{arith}
use mathlib.Core.Path.{◌∙◌}
use mir.Syntax.{w64}
use mir.Facts.{to_z_pos}
use Rattle.price.proofs.kinds.Tags.{ne-kind, eq-kind}
use Rattle.price.proofs.numbers.Answers.{rng-none, rng-other, rng-here}
use Rattle.price.proofs.numbers.rng_place.Goals as goal

pub returns-in_default : goal.returns-in_default
returns-in_default c = rw c.in_default.is (rng-none _)

pub returns-then-ne : goal.returns-then-ne
returns-then-ne c = rw c.in-Some.is (rng-other _ _ (ne-kind _ _ _ c.ne.ensures c.if-ne.true))

pub returns : goal.returns
returns c = rw c.in-Some.is (to_z_pos w64 (omega (arith, rw c.in-Some.is at c.requires)) ∙ rng-here _ _ (eq-kind _ _ _ c.ne.ensures c.if-ne.false))
