-- `price::filling::fill_message` meets its contract. The loop's invariant: `Filling`.
use Rattle.price.proofs.filling.Walk.{Filling, left_to}
use Rattle.price.proofs.filling.fill_message.Given as goal

abbrev pub invariant-loop-here : goal.invariant-loop-here
invariant-loop-here l = Filling l.d.syntax l.d.bytes.now l.k l.initial.row l.row l.seen l.p l.here

abbrev pub decreases-loop-here : goal.decreases-loop-here
decreases-loop-here l = left_to l.d.bytes.now l.here
