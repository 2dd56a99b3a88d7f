-- `page::marks::clean_on` meets its contract. The loop's invariant: the component goes on behind the release marks that are passed.
use Prim.Native.Nat.{◌-◌}
use lib.ListN.{length}
use Rattle.page.proofs.marks.Clean.{Clean}
use Rattle.page.proofs.marks.clean_on.Given as goal

abbrev pub invariant-loop-behind : goal.invariant-loop-behind
invariant-loop-behind l = Clean l.d.syntax l.d.bytes.now l.a l.from l.removed

abbrev pub decreases-loop-behind : goal.decreases-loop-behind
decreases-loop-behind l = length l.d.bytes.now - l.from.at
