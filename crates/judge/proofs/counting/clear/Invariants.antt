-- `judge::counting::clear` meets its contract. The loop's invariant is `Clearing`: the nodes that are still to be cleared. Assumes nothing.
use Rattle.judge.proofs.counting.Counts.{Clearing}
use Rattle.judge.proofs.counting.clear.Given as goal

abbrev pub invariant-loop-m : goal.invariant-loop-m
invariant-loop-m l = Clearing l.nodes l.initial.counts l.counts l.m-iterator.0
