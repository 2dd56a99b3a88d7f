-- `schaumtruhe::surveys::counted` meets its contract. The loop's invariant: `Passed`.
use Prim.Native.Nat.{◌-◌}
use lib.ListN.{length}
use Rattle.schaumtruhe.proofs.surveys.Steps.{Passed}
use Rattle.schaumtruhe.proofs.surveys.counted.Given as goal

abbrev pub invariant-loop-outer : goal.invariant-loop-outer
invariant-loop-outer l = Passed l.d.syntax l.d.bytes.now l.counts.messages l.counts.accepted l.counts.outside l.at

abbrev pub decreases-loop-outer : goal.decreases-loop-outer
decreases-loop-outer l = length l.d.bytes.now - l.at
