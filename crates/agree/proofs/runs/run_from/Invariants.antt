-- `agree::runs::run_from` meets its contract. The loop's invariant: what is passed is such a run.
use Prim.Native.Nat.{◌-◌}
use lib.ListN.{length}
use Rattle.agree.proofs.runs.Running.{Growing}
use Rattle.agree.proofs.runs.run_from.Given as goal

abbrev pub invariant-loop-room : goal.invariant-loop-room
invariant-loop-room l = Growing l.d.syntax l.d.bytes.now l.at l.t l.run

abbrev pub decreases-loop-room : goal.decreases-loop-room
decreases-loop-room l = length l.d.bytes.now - l.run.end
