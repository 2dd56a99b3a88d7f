-- `envelope::walking::walked` meets its contract. The loop's invariant: `Passing`.
use Prim.Native.Nat.{◌-◌}
use lib.ListN.{length}
use Rattle.envelope.proofs.walks.Steps.{Passing}
use Rattle.envelope.proofs.walking.walked.Given as goal

abbrev pub invariant-loop-segment : goal.invariant-loop-segment
invariant-loop-segment l = Passing l.d.syntax l.d.bytes.now l.start l.end l.w

abbrev pub decreases-loop-segment : goal.decreases-loop-segment
decreases-loop-segment l = length l.d.bytes.now - l.w.last.end
