-- `judge::lacking::missing_node` meets its contract. The loop's invariant is `Sought`: the first gap is among the nodes that are left. Assumes nothing.
use mathlib.Core.Path.{ap₂}
use lib.Bits.{bit_and}
use Rattle.judge.proofs.sets.Sought.{sought_out, sought_inside, sought_next}
use Rattle.judge.proofs.lacking.Missed.{gap_begins, gap_none}
use Rattle.judge.proofs.lacking.missing_node.Goals as goal

pub loop-m-init : goal.loop-m-init
loop-m-init c =
    let a = c.args in
    rw c.into_iter-m-iterator.ensures.into_iter_gives (gap_begins a.edition a.counts.now a.n a.last _ (ap₂ bit_and c.due.ensures c.preceding.ensures))

pub is_missed-requires : goal.is_missed-requires
is_missed-requires c =
    let s = c.in-Some.ensures.steps in
    (sought_inside c.loop-m.invariant s.0 _ s.1).1

pub missing_for-requires : goal.missing_for-requires
missing_for-requires c = c.requires.n_in_bounds

pub returns-then-is_missed : goal.returns-then-is_missed
returns-then-is_missed c = c.missing_for.ensures

pub loop-m-preserved : goal.loop-m-preserved
loop-m-preserved c =
    let s = c.in-Some.ensures.steps in
    sought_next c.loop-m.invariant s.0 _ s.1 _ s.2 _ c.is_missed.ensures c.if-is_missed.false

pub returns : goal.returns
returns c =
    let a = c.args in
    gap_none a.edition a.counts.now a.n a.last _ (ap₂ bit_and c.due.ensures c.preceding.ensures) c.requires.n_in_bounds.0
    c.requires.n_in_bounds.1 c.requires.last_value
    (rw c.into_iter-m-iterator.ensures.into_iter_gives at (sought_out c.loop-m.invariant c.in-None.ensures.steps.0))
