-- `element::cursor::Cursor::after` meets its contract: by what ends where the component does. Assumes nothing.
use Prim.Native.Nat.{◌<◌}
use mathlib.Core.Path.{sym, ◌∙◌}
use native.Mathlib.Omega.{arith}
use Rattle.element.proofs.cursor.Standing.{stands}
use Rattle.element.proofs.cursor.Onward.{next_by, after-ending}
use Rattle.element.proofs.scan.Endings.{inside-element, inside-component}
use Rattle.element.proofs.cursor.Cursor.after.Goals as goal

pub returns-in-Segment : goal.returns-in-Segment
unfolding next_by
returns-in-Segment c = c.spent.ensures ∙ sym (after-ending _ _ _ _ _ c.requires _ (sym c.ending_at.ensures ∙ c.in-Segment.is))

pub overflow_add-result : goal.overflow_add-result
overflow_add-result c =
    let l : c.args.stop < c.args.limit = inside-element _ _ _ _ (sym c.ending_at.ensures ∙ c.in-Element.is) in
    omega (arith, stands _ _ c.requires.stands, c.requires)

pub overflow_add-result-in-Element : goal.overflow_add-result-in-Element
overflow_add-result-in-Element c =
    let l : c.args.stop < c.args.limit = inside-element _ _ _ _ (sym c.ending_at.ensures ∙ c.in-Element.is) in
    omega arith

pub returns-in-Element : goal.returns-in-Element
unfolding next_by
returns-in-Element c = sym (after-ending _ _ _ _ _ c.requires _ (sym c.ending_at.ensures ∙ c.in-Element.is))

pub overflow_add-result-in-Component : goal.overflow_add-result-in-Component
overflow_add-result-in-Component c =
    let l : c.args.stop < c.args.limit = inside-component _ _ _ _ (sym c.ending_at.ensures ∙ c.in-Component.is) in
    omega (arith, stands _ _ c.requires.stands, c.requires)

pub overflow_add-result-in-Component-2 : goal.overflow_add-result-in-Component-2
overflow_add-result-in-Component-2 c =
    let l : c.args.stop < c.args.limit = inside-component _ _ _ _ (sym c.ending_at.ensures ∙ c.in-Component.is) in
    omega arith

pub returns-in-Component : goal.returns-in-Component
unfolding next_by
returns-in-Component c = sym (after-ending _ _ _ _ _ c.requires _ (sym c.ending_at.ensures ∙ c.in-Component.is))
