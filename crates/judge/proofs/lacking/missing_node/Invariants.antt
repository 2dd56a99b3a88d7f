-- `judge::lacking::missing_node` meets its contract. The loop's invariant is `Sought`: the first gap is among the nodes that are left. Assumes nothing.
use Rattle.guide.specs.workers.Placing.{first_node}
use Rattle.guide.specs.Editions.{guide_of}
use Rattle.judge.specs.workers.Searches.{missed}
use Rattle.judge.proofs.sets.Sought.{Sought, within}
use Rattle.judge.proofs.lacking.missing_node.Given as goal

abbrev pub invariant-loop-m : goal.invariant-loop-m
invariant-loop-m l =
    Sought (guide_of l.edition) (missed (guide_of l.edition) l.counts)
    (first_node (guide_of l.edition) (within l.initial.m-iterator.0 (missed (guide_of l.edition) l.counts))) l.m-iterator.0
