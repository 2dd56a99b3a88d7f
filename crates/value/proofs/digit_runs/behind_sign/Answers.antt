-- `value::digit_runs::behind_sign` meets its contract: by the test for the sign.
use borrow.Author.Tests.{eq-eqb, ne_eqb}
use Rattle.value.specs.workers.Scans.{behind_sign}
use Rattle.value.proofs.digit_runs.behind_sign.Goals as goal

pub returns-then-d-a-eq45 : goal.returns-then-d-a-eq45
unfolding behind_sign
returns-then-d-a-eq45 c = simp (eq-eqb _ _ c.if-d-a-eq45.true)

pub returns : goal.returns
unfolding behind_sign
returns c = simp (ne_eqb _ _ c.if-d-a-eq45.false)
