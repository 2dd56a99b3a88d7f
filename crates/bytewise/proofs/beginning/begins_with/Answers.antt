-- `bytewise::beginning::begins_with` meets its contract: what the whole answers, the bytes not compared yet answer.
use mathlib.Core.Path.{refl, sym, ◌∙◌}
use borrow.Author.Rules.{rules}
use Rattle.bytewise.proofs.Words.{begins-short, begins_on, begins-not, begins-all}
use Rattle.bytewise.proofs.beginning.begins_with.Goals as goal

pub returns-then-d-word : goal.returns-then-d-word
returns-then-d-word c = sym (begins-short _ _ c.if-d-word.true)

pub loop-i-init : goal.loop-i-init
loop-i-init c = refl

pub returns-then-d-i : goal.returns-then-d-i
returns-then-d-i c =
    sym (c.loop-i.invariant
    ∙ begins-not _ _ _ c.if-d-word.false c.loop-i-test.true c.if-d-i.true)

pub loop-i-preserved : goal.loop-i-preserved
loop-i-preserved c = c.loop-i.invariant ∙ begins_on _ _ _ c.if-d-word.false c.loop-i-test.true c.if-d-i.false

pub returns : goal.returns
returns c = sym (c.loop-i.invariant ∙ begins-all _ _ _ c.if-d-word.false c.loop-i-test.false)
