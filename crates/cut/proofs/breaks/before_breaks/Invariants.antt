-- `cut::breaks::before_breaks` meets its contract.
use Prim.Native.Nat.{◌≤◌, min}
use mathlib.Core.Path.{◌≡◌}
use Rattle.cut.specs.Calls.{back, back_at}
use Rattle.cut.proofs.breaks.before_breaks.Given as goal

abbrev pub invariant-loop-i : goal.invariant-loop-i
invariant-loop-i l = (min l.end l.first ≤ l.i) × (back_at l.d.syntax l.d.bytes.now l.first l.at ≡ back l.d.syntax l.d.bytes.now l.first l.i)
