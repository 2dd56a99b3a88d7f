-- `cut::breaks::before_breaks` meets its contract.
use mathlib.Core.Path.{sym, ◌∙◌, ap}
use native.Mathlib.Omega.{arith}
use Rattle.cut.specs.Calls.{back}
use Rattle.cut.proofs.Backing.{back_on, back-here, back-first}
use Rattle.cut.proofs.breaks.before_breaks.Goals as goal

pub loop-i-init : goal.loop-i-init
loop-i-init c = (omega arith, ap (back _ _ _) (sym c.limit_of-end.ensures))

pub returns-then-not-is_break : goal.returns-then-not-is_break
returns-then-not-is_break c =
    let e = back-here c.args.d.syntax c.args.d.bytes.now c.args.first c.loop-i.i (sym c.is_break.ensures ∙ c.if-not-is_break.true) in
    omega (arith, c.loop-i.invariant.1 ∙ e)

pub loop-i-preserved : goal.loop-i-preserved
loop-i-preserved c = (
  omega arith,
  c.loop-i.invariant.1 ∙ back_on _ _ _ _ c.loop-i-test.true (sym c.is_break.ensures ∙ c.if-not-is_break.false),
)

pub returns : goal.returns
returns c =
    let e = back-first c.args.d.syntax c.args.d.bytes.now c.args.first c.loop-i.i c.loop-i-test.false in
    omega (arith, c.loop-i.invariant.1 ∙ e)
