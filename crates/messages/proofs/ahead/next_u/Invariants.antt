-- `messages::ahead::next_u` meets its contract. The loop's invariant: none of the segments up to here begins with U.
use Prim.Native.Nat.{◌-◌, ◌≤◌}
use lib.ListN.{length}
use Rattle.messages.proofs.walks.Skipping.{Plain, upto}
use Rattle.messages.proofs.ahead.next_u.Given as goal

abbrev pub invariant-loop-d : goal.invariant-loop-d
invariant-loop-d l = (l.from ≤ l.i) × (l.i ≤ length l.d.bytes.now) × Plain (upto l.d.syntax l.d.bytes.now l.from l.i)

abbrev pub decreases-loop-d : goal.decreases-loop-d
decreases-loop-d l = length l.d.bytes.now - l.i
