-- `cut::breaks::past_breaks` meets its contract.
use mathlib.Core.Path.{◌≡◌}
use Rattle.cut.specs.Segments.{past_at}
use Rattle.cut.proofs.breaks.past_breaks.Given as goal

abbrev pub invariant-loop-i : goal.invariant-loop-i
invariant-loop-i l = past_at l.d.syntax l.d.bytes.now l.at ≡ past_at l.d.syntax l.d.bytes.now l.i
