-- `judge::counting::clear` meets its contract. The loop's invariant is `Clearing`: the nodes that are still to be cleared. Assumes nothing.
use native.Mathlib.Omega.{arith}
use lib.Count.{trailing_le}
use Rattle.judge.proofs.counting.Counts.{clear-begins, clear_next, clear_end}
use Rattle.judge.proofs.counting.clear.Goals as goal

pub loop-m-init : goal.loop-m-init
loop-m-init c = rw c.into_iter-m-iterator.ensures.into_iter_gives (clear-begins c.args.nodes c.args.counts.now (omega arith))

pub offset_bounds-counts-m : goal.offset_bounds-counts-m
offset_bounds-counts-m c = omega (arith, c.in-Some.ensures.steps.1, trailing_le 32 c.loop-m.m-iterator.0)

pub bounds-counts-m : goal.bounds-counts-m
bounds-counts-m c = omega (arith, c.in-Some.ensures.steps.1, trailing_le 32 c.loop-m.m-iterator.0)

pub loop-m-preserved : goal.loop-m-preserved
loop-m-preserved c =
    let s = c.in-Some.ensures.steps in
    clear_next c.loop-m.invariant s.0 _ s.1 _ s.2

pub returns : goal.returns
returns c = clear_end c.loop-m.invariant c.in-None.ensures.steps.0
