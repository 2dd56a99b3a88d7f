-- `agree::first::search_from` meets its contract. The loop's invariant: `Searched`.
use Prim.Native.Nat.{◌-◌}
use lib.ListN.{length}
use Rattle.agree.specs.workers.Runs.{Searched}
use Rattle.agree.proofs.first.search_from.Given as goal

abbrev pub invariant-loop-entry : goal.invariant-loop-entry
invariant-loop-entry l = Searched l.d.syntax l.d.bytes.now l.start l.at l.n

abbrev pub decreases-loop-entry : goal.decreases-loop-entry
decreases-loop-entry l = length l.d.bytes.now - l.at
