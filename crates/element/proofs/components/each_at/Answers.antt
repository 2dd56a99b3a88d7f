-- `element::components::each_at` meets its contract. The loop's invariant is `Walking`: the search among what is left gives the answer.
use Prim.Native.Nat.{◌≤◌, ◌<◌}
use mathlib.Core.Path.{refl, sym, ◌∙◌}
use native.Mathlib.Omega.{arith}
use Rattle.element.proofs.components.Walking.{differs, equal, walk_start, walk-found, walk_out, walk-element, walk-component}
use Rattle.element.proofs.scan.Endings.{inside-element, inside-component}
use Rattle.element.proofs.scan.Extents.{extent_end, extent-onward}
use Rattle.element.proofs.components.each_at.Goals as goal
use Rattle.element.proofs.components.each_at.Goals.{in-Element, in-Component}

pub loop-e-init : goal.loop-e-init
loop-e-init c = walk_start _ _ _ _ _ _ c.requires.0 c.requires.1 _ refl

pub returns-then-c-component : goal.returns-then-c-component
returns-then-c-component c =
    walk-found _ _ _ _ _ _ _ _ _ c.loop-e.invariant _ (extent_end _ _ _ _ _ c.component_from-stop.ensures)
    (equal _ _ _ _ c.if-e-element.true c.if-c-component.true)

pub returns-in-Segment : goal.returns-in-Segment
returns-in-Segment c =
    walk_out _ _ _ _ _ _ _ _ _ c.loop-e.invariant _ (extent_end _ _ _ _ _ c.component_from-stop.ensures) (differs _ _ _ _ c.else-e-element.either)
    (sym c.ending_at.ensures ∙ c.in-Segment.is)

pub overflow_add-e : goal.overflow_add-e
overflow_add-e c =
    let onward : c.loop-e.i ≤ c.component_from-stop.result.end = extent-onward _ _ _ _ _ c.component_from-stop.ensures in
    let inside : c.component_from-stop.result.end < c.args.limit = inside-element _ _ _ _ (sym c.ending_at.ensures ∙ c.in-Element.is) in
    omega (arith, c.loop-e.invariant.stands, c.loop-e.invariant.within)

pub overflow_add-c : goal.overflow_add-c
overflow_add-c c =
    let onward : c.loop-e.i ≤ c.component_from-stop.result.end = extent-onward _ _ _ _ _ c.component_from-stop.ensures in
    let inside : c.component_from-stop.result.end < c.args.limit = inside-component _ _ _ _ (sym c.ending_at.ensures ∙ c.in-Component.is) in
    omega (arith, c.loop-e.invariant.stands, c.loop-e.invariant.within)

pub overflow_add-i : goal.overflow_add-i
overflow_add-i c =
    let inside : c.component_from-stop.result.end < c.args.limit =
    elim c.match-ending_at.branch [
      | in-Element w ↦ inside-element _ _ _ _ (sym c.ending_at.ensures ∙ w.in-Element.is)
      | in-Component w ↦ inside-component _ _ _ _ (sym c.ending_at.ensures ∙ w.in-Component.is)
    ] in
    omega arith

pub loop-e-smaller : goal.loop-e-smaller
loop-e-smaller c =
    let onward : c.loop-e.i ≤ c.component_from-stop.result.end = extent-onward _ _ _ _ _ c.component_from-stop.ensures in
    let inside : c.component_from-stop.result.end < c.args.limit =
    elim c.match-ending_at.branch [
      | in-Element w ↦ inside-element _ _ _ _ (sym c.ending_at.ensures ∙ w.in-Element.is)
      | in-Component w ↦ inside-component _ _ _ _ (sym c.ending_at.ensures ∙ w.in-Component.is)
    ] in
    omega arith

pub loop-e-preserved : goal.loop-e-preserved
loop-e-preserved c =
    let s = extent_end _ _ _ _ _ c.component_from-stop.ensures in
    let n = differs _ _ _ _ c.else-e-element.either in
    elim c.match-ending_at.branch [
      | in-Element w ↦ walk-element _ _ _ _ _ _ _ _ _ c.loop-e.invariant _ s n (sym c.ending_at.ensures ∙ w.in-Element.is) _ _ _ w.e-is w.c-is refl
      | in-Component w ↦ walk-component _ _ _ _ _ _ _ _ _ c.loop-e.invariant _ s n (sym c.ending_at.ensures ∙ w.in-Component.is) _ _ _ w.e-is w.c-is refl
    ]
