-- `agree::agreement::not_past` meets its contract.
use borrow.Author.Tests.{eq-eqb, ne_eqb}
use Rattle.agree.specs.workers.Visits.{in_time}
use Rattle.agree.proofs.agreement.not_past.Goals as goal

pub returns-then-u-v : goal.returns-then-u-v
unfolding in_time
returns-then-u-v c = rw (c.in-Some.is, eq-eqb _ _ c.if-u-v.true)

pub returns-else-u-v : goal.returns-else-u-v
unfolding in_time
returns-else-u-v c = rw (c.in-Some.is, ne_eqb _ _ c.if-u-v.false)
