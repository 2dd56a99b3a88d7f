-- `agree::first::first_from` meets its contract. The loop's invariant: `Searched`.
use Prim.Native.Nat.{◌+◌, ◌-◌}
use lib.ListN.{length}
use Rattle.agree.specs.workers.Runs.{Searched}
use Rattle.agree.proofs.first.first_from.Given as goal

abbrev pub invariant-loop-at : goal.invariant-loop-at
invariant-loop-at l = Searched l.d.syntax l.d.bytes.now l.start l.at l.n

abbrev pub decreases-loop-at : goal.decreases-loop-at
decreases-loop-at l = length l.d.bytes.now - l.at + l.most
