-- `judge::counting::enter` meets its contract: one more of n, then its children cleared. Assumes nothing.
use native.Mathlib.Omega.{arith}
use Rattle.judge.proofs.rows.Tables.{table_fits}
use Rattle.judge.proofs.rows.Sound.{sound-at}
use Rattle.judge.proofs.counting.Counts.{entered}
use Rattle.judge.proofs.counting.enter.Goals as goal

pub offset_bounds-counts-n : goal.offset_bounds-counts-n
offset_bounds-counts-n c = omega (arith, table_fits c.args.edition)

pub bounds-counts-n : goal.bounds-counts-n
bounds-counts-n c = omega (arith, table_fits c.args.edition)

pub bounds-counts-n-2 : goal.bounds-counts-n-2
bounds-counts-n-2 c = omega (arith, table_fits c.args.edition)

pub returns : goal.returns
returns c =
    let a = c.args in
    entered a.edition a.n a.counts.now _ c.requires.n_nonzero.1 (sound-at a.edition a.n c.requires.n_nonzero.0 c.requires.n_nonzero.1).lower
    c.children.ensures _ c.clear.ensures
