-- `element::endings::ending_of` meets its contract: each return by the tests that led there.
use mathlib.Core.Path.{sym}
use Rattle.element.specs.Elements.{ending_of}
use Rattle.element.proofs.scan.Endings.{ending_segment, ending_element, ending_component, ending_nothing}
use Rattle.element.proofs.endings.ending_of.Goals as goal

pub returns-then-released : goal.returns-then-released
unfolding ending_of
returns-then-released c = rw c.if-released.true

pub returns-then-x-y : goal.returns-then-x-y
returns-then-x-y c = rw c.if-released.false (sym (ending_segment _ _ c.if-x-y.true))

pub returns-then-x-y-2 : goal.returns-then-x-y-2
returns-then-x-y-2 c = rw c.if-released.false (sym (ending_element _ _ c.if-x-y.false c.if-x-y-2.true))

pub returns-then-x-y-3 : goal.returns-then-x-y-3
returns-then-x-y-3 c = rw c.if-released.false (sym (ending_component _ _ c.if-x-y.false c.if-x-y-2.false c.if-x-y-3.true))

pub returns : goal.returns
returns c = rw c.if-released.false (sym (ending_nothing _ _ c.if-x-y.false c.if-x-y-2.false c.if-x-y-3.false))
