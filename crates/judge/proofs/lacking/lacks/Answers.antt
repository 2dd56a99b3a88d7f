-- `judge::lacking::lacks` meets its contract: one law for each return. Assumes nothing.
use Rattle.guide.specs.Editions.{guide_of}
use Rattle.judge.proofs.lacking.Gaps.{lacks-none, lacks-closed, lacks-earlier}
use Rattle.judge.proofs.lacking.lacks.Goals as goal

pub returns-then-not-is_missed : goal.returns-then-not-is_missed
returns-then-not-is_missed c =
    let a = c.args in
    lacks-none (guide_of a.edition) a.counts.now a.n a.p a.m _ c.is_missed.ensures c.if-not-is_missed.true

pub returns-then-p-parent_of : goal.returns-then-p-parent_of
returns-then-p-parent_of c =
    let a = c.args in
    lacks-closed (guide_of a.edition) a.counts.now a.n a.p a.m _ c.is_missed.ensures c.if-not-is_missed.false
    _ c.parent_of.ensures c.if-p-parent_of.true

pub returns : goal.returns
returns c =
    let a = c.args in
    lacks-earlier (guide_of a.edition) a.counts.now a.n a.p a.m _ c.is_missed.ensures c.if-not-is_missed.false
    _ c.parent_of.ensures _ _ c.if-p-parent_of.false c.counter_of.ensures c.counter_of-2.ensures
