-- `report::lines::message_lines` is safe and ends: the search goes on from the end of the message found.
use Rattle.std.proofs.Common.{length, ◌-◌, ◌≤◌}
use Rattle.report.proofs.lines.message_lines.Given as goal

abbrev pub invariant-loop-m : goal.invariant-loop-m
invariant-loop-m g l = (l.number ≤ l.from) × (l.from ≤ length l.d)

abbrev pub decreases-loop-m : goal.decreases-loop-m
decreases-loop-m g l = length l.d - l.from
