-- `bytewise::search::rest_that` meets its contract. The loop's invariant: up to here no byte passes.
use Rattle.bytewise.proofs.Searching.{NoneThat}
use Rattle.bytewise.proofs.search.rest_that.Given as goal

abbrev pub invariant-loop-i : goal.invariant-loop-i
invariant-loop-i g l = NoneThat (g.T.ByteTest.holds l.test) l.d l.from l.i
