-- `envelope::parts::lacks_any` meets its contract. The loop's invariant: what is left decides.
use Rattle.std.proofs.Common.{refl, sym, ◌∙◌}
use Rattle.envelope.proofs.rows.Texts.{lacks-now, lacks-later, lacks-none}
use Rattle.envelope.proofs.parts.lacks_any.Goals as goal

pub loop-element-init : goal.loop-element-init
loop-element-init c = refl

pub returns-then-lacks_one : goal.returns-then-lacks_one
returns-then-lacks_one c =
    sym (lacks-now _ _ _ _ c.loop-element-test.true _ c.lacks_one.ensures c.if-lacks_one.true) ∙ c.loop-element.invariant

pub loop-element-preserved : goal.loop-element-preserved
loop-element-preserved c =
    sym (lacks-later _ _ _ _ c.loop-element-test.true _ c.lacks_one.ensures c.if-lacks_one.false) ∙ c.loop-element.invariant

pub returns : goal.returns
returns c = sym (lacks-none _ _ _ c.loop-element-test.false) ∙ c.loop-element.invariant
