-- `plain::plain::copy_plain` meets its contract. The loop's invariant: so many bytes are copied, and the iterator has the others.
use Rattle.plain.proofs.Copying.{copying_end, copying_full, copying_more}
use Rattle.plain.proofs.plain.copy_plain.Goals as goal

pub returns-then-out-n-clause-out_after : goal.returns-then-out-n-clause-out_after
returns-then-out-n-clause-out_after c = (copying_full c.loop-x.invariant c.if-out-n.true).1

pub loop-x-preserved : goal.loop-x-preserved
loop-x-preserved c = copying_more c.loop-x.invariant _ _ c.in-Some.ensures.steps c.if-out-n.false

pub returns-clause-out_after : goal.returns-clause-out_after
returns-clause-out_after c = (copying_end c.loop-x.invariant c.in-None.ensures.steps.0).1
