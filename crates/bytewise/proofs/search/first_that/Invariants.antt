-- `bytewise::search::first_that` meets its contract. The loop's invariant: up to here no byte passes.
use Prim.Native.Nat.{◌-◌, ◌≤◌}
use Rattle.bytewise.proofs.Searching.{NoneThat}
use Rattle.bytewise.proofs.search.first_that.Given as goal

abbrev pub invariant-loop-i : goal.invariant-loop-i
invariant-loop-i g l = (l.from ≤ l.i) × NoneThat (g.T.ByteTest.holds l.test) l.d l.from l.i

abbrev pub decreases-loop-i : goal.decreases-loop-i
decreases-loop-i g l = l.end - l.i
