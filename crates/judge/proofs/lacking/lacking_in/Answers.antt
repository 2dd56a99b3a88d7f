-- `judge::lacking::lacking_in` meets its contract. The loop's invariant is `Walking`: a walk over the required children of p. Assumes nothing.
use native.Mathlib.Omega.{arith}
use Rattle.guide.specs.workers.Placing.{lacking}
use Rattle.guide.specs.Editions.{guide_of}
use Rattle.judge.specs.workers.Rows.{due_of, first_due, next_due}
use Rattle.judge.proofs.rows.Tables.{table_fits}
use Rattle.judge.proofs.lacking.Links.{walk_begins, walk_out, walk_inside, walk-found, walk-next, walk_less}
use Rattle.judge.proofs.lacking.Gaps.{due_below, lacks-only, lacks-due}
use Rattle.judge.proofs.pairs.Partners.{pair_optional}
use Rattle.judge.proofs.lacking.lacking_in.Goals as goal

pub loop-m-init : goal.loop-m-init
unfolding first_due
loop-m-init c =
    let a = c.args in
    let g = guide_of a.edition in
    walk_begins g (due_of g) a.p (lacking g a.counts.now a.n a.p) _ (due_below g a.counts.now a.n a.p)
    (lacks-only g a.counts.now a.n a.p)
    (omega (arith, table_fits a.edition)) c.first_due-m.ensures

pub lacks-requires : goal.lacks-requires
lacks-requires c = (c.requires.0, walk_inside c.loop-m.invariant c.loop-m-test.true)

pub returns-then-lacks : goal.returns-then-lacks
returns-then-lacks c =
    let a = c.args in
    let some = c.loop-m-test.true in
    walk-found c.loop-m.invariant some
    (lacks-due (guide_of a.edition) a.counts.now a.n a.p _ _ _ (pair_optional a.edition _) (c.loop-m.invariant.kind some) c.lacks.ensures
    c.if-lacks.true)

pub next_due-m-requires : goal.next_due-m-requires
next_due-m-requires c =
    walk_inside c.loop-m.invariant c.loop-m-test.true

pub loop-m-smaller : goal.loop-m-smaller
unfolding next_due
loop-m-smaller c =
    walk_less c.loop-m.invariant c.loop-m-test.true _ c.next_due-m.ensures

pub loop-m-preserved : goal.loop-m-preserved
unfolding next_due
loop-m-preserved c =
    let a = c.args in
    let some = c.loop-m-test.true in
    walk-next c.loop-m.invariant some _ c.next_due-m.ensures
    (lacks-due (guide_of a.edition) a.counts.now a.n a.p _ _ _ (pair_optional a.edition _) (c.loop-m.invariant.kind some) c.lacks.ensures
    c.if-lacks.false)

pub returns : goal.returns
returns c = walk_out c.loop-m.invariant c.loop-m-test.false
