-- `judge::seeking::found_by` meets its contract. The loop's invariant is `Sought`: the answer is found among the nodes that are left. Assumes nothing.
use mathlib.Core.Path.{refl}
use native.Mathlib.Omega.{arith}
use Rattle.judge.specs.workers.Sets.{Nodes}
use Rattle.judge.proofs.sets.Sought.{sought_out, sought_inside, sought_found, sought_next}
use Rattle.judge.proofs.seeking.found_by.Goals as goal

pub loop-n-init : goal.loop-n-init
unfolding Nodes
loop-n-init c = rw c.into_iter-n-iterator.ensures.into_iter_gives (record { fits = omega arith; inside = c.requires; answer = refl })

pub is_chosen-requires : goal.is_chosen-requires
is_chosen-requires c =
    let s = c.in-Some.ensures.steps in
    (sought_inside c.loop-n.invariant s.0 _ s.1).1

pub returns-then-is_chosen : goal.returns-then-is_chosen
returns-then-is_chosen c =
    let s = c.in-Some.ensures.steps in
    sought_found c.loop-n.invariant s.0 _ s.1 _ c.is_chosen.ensures c.if-is_chosen.true

pub loop-n-preserved : goal.loop-n-preserved
loop-n-preserved c =
    let s = c.in-Some.ensures.steps in
    sought_next c.loop-n.invariant s.0 _ s.1 _ s.2 _ c.is_chosen.ensures c.if-is_chosen.false

pub returns : goal.returns
returns c = sought_out c.loop-n.invariant c.in-None.ensures.steps.0
