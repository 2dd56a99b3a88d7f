-- `judge::lacking::lacking_in` meets its contract. The loop's invariant is `Walking`: a walk over the required children of p. Assumes nothing.
use Rattle.guide.specs.workers.Placing.{first_node, lacking}
use Rattle.guide.specs.Editions.{guide_of}
use Rattle.judge.specs.workers.Rows.{due_of}
use Rattle.judge.proofs.lacking.Links.{Walking, ahead}
use Rattle.judge.proofs.lacking.lacking_in.Given as goal

abbrev pub invariant-loop-m : goal.invariant-loop-m
invariant-loop-m l =
    Walking (guide_of l.edition) (due_of (guide_of l.edition)) l.p (lacking (guide_of l.edition) l.counts l.n l.p)
    (first_node (guide_of l.edition) (lacking (guide_of l.edition) l.counts l.n l.p)) l.m

abbrev pub decreases-loop-m : goal.decreases-loop-m
decreases-loop-m l = ahead (guide_of l.edition) l.m
