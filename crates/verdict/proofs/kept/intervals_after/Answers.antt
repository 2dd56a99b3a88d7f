-- `verdict::kept::intervals_after` meets its contract.
use Rattle.verdict.specs.workers.Segments.{spanned}
use Rattle.verdict.proofs.kept.intervals_after.Goals as goal

pub returns-else-intervals : goal.returns-else-intervals
unfolding spanned
returns-else-intervals c = rw c.if-intervals.false c.is_code.ensures
