-- `bytewise::search::rest_that` meets its contract.
use mathlib.Core.Path.{sym, ◌∙◌}
use native.Mathlib.Omega.{arith}
use Rattle.bytewise.proofs.Searching.{found_here, none_more, found_none}
use Rattle.bytewise.proofs.search.rest_that.Goals as goal

pub returns-then-passes : goal.returns-then-passes
returns-then-passes g c =
    found_here _ _ _ _ _ c.loop-i.auto.i c.loop-i.invariant c.loop-i-test.true (sym c.passes.ensures ∙ c.if-passes.true)

pub loop-i-preserved : goal.loop-i-preserved
loop-i-preserved g c =
    none_more (g.T.ByteTest.holds c.args.test.now) c.args.d.now _ 0 _ c.loop-i.auto.i c.loop-i.invariant (sym c.passes.ensures ∙ c.if-passes.false)

pub returns : goal.returns
returns g c = found_none _ _ _ _ (λ k a l. c.loop-i.invariant k a (omega arith))
