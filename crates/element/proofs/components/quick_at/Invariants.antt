-- `element::components::quick_at` meets its contract. The loop's invariant: what is left to count leads to the component (`Counting`), and what is tested.
use Prim.Native.Nat.{◌-◌}
use Rattle.element.specs.workers.Scans.{Scanned}
use Rattle.element.specs.Services.{is_service}
use Rattle.element.proofs.components.Counting.{Counting}
use Rattle.element.proofs.components.quick_at.Given as goal

abbrev pub invariant-loop-behind : goal.invariant-loop-behind
invariant-loop-behind l =
    Counting l.d.syntax l.d.bytes.now l.start l.element l.component l.limit l.e l.c l.scan.at × Scanned (is_service l.d.syntax) l.d.bytes.now l.scan

abbrev pub decreases-loop-behind : goal.decreases-loop-behind
decreases-loop-behind l = l.limit - l.scan.at
