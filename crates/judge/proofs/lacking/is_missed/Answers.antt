-- `judge::lacking::is_missed` meets its contract: it has come, or it is asked whether it must. Assumes nothing.
use native.Mathlib.Omega.{arith}
use Rattle.guide.specs.Editions.{guide_of}
use Rattle.judge.proofs.rows.Tables.{table_fits}
use Rattle.judge.proofs.lacking.Gaps.{missed_there, missed-wanted}
use Rattle.judge.proofs.lacking.is_missed.Goals as goal

pub offset_bounds-counts-m : goal.offset_bounds-counts-m
offset_bounds-counts-m c = omega (arith, table_fits c.args.edition)

pub bounds-counts-m : goal.bounds-counts-m
bounds-counts-m c = omega (arith, table_fits c.args.edition)

pub returns-then-counts-m-ne0 : goal.returns-then-counts-m-ne0
returns-then-counts-m-ne0 c =
    let a = c.args in
    missed_there (guide_of a.edition) a.counts.now a.m c.if-counts-m-ne0.true

pub returns : goal.returns
returns c =
    let a = c.args in
    missed-wanted (guide_of a.edition) a.counts.now a.m c.if-counts-m-ne0.false _ c.is_wanted.ensures
