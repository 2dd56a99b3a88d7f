-- `sieve::prints::print_segment` meets its contract. The loop's invariant: what is left, printed after what is passed, gives the print.
use mathlib.Core.Path.{sym, ap, ◌∙◌}
use native.Mathlib.Omega.{arith}
use Rattle.sieve.specs.workers.Prints.{passing, print_behind}
use Rattle.sieve.proofs.prints.Printing.{printing_first, printing_behind}
use Rattle.sieve.proofs.prints.print_segment.Goals as goal

pub loop-element-init : goal.loop-element-init
loop-element-init c = (omega arith, omega arith, printing_first _ _ _ _)

pub returns-in-Segment : goal.returns-in-Segment
unfolding print_behind
returns-in-Segment c =
    sym (printing_behind _ _ _ _ _ _ _ _ _ c.print_own-own.ensures c.in-Segment.is) ∙ c.loop-element.invariant.2

pub overflow_add-element : goal.overflow_add-element
overflow_add-element c =
    let on = c.print_own-own.ensures.onward (ap passing c.in-Element.is) in
    omega (arith, on.0, on.1, c.loop-element.invariant.0)

pub loop-element-smaller-in-Element : goal.loop-element-smaller-in-Element
loop-element-smaller-in-Element c =
    let on = c.print_own-own.ensures.onward (ap passing c.in-Element.is) in
    omega (arith, on.0, on.1)

pub loop-element-preserved-in-Element : goal.loop-element-preserved-in-Element
unfolding print_behind
loop-element-preserved-in-Element c =
    let on = c.print_own-own.ensures.onward (ap passing c.in-Element.is) in (
      omega (arith, on.0, c.loop-element.invariant.0),
      omega arith,
      sym (printing_behind _ _ _ _ _ _ _ _ _ c.print_own-own.ensures c.in-Element.is) ∙ c.loop-element.invariant.2,
    )

pub overflow_add-component : goal.overflow_add-component
overflow_add-component c =
    let on = c.print_own-own.ensures.onward (ap passing c.in-Component.is) in
    omega (arith, on.0, on.1, c.loop-element.invariant.1)

pub loop-element-smaller : goal.loop-element-smaller
loop-element-smaller c =
    let on = c.print_own-own.ensures.onward (ap passing c.in-Component.is) in
    omega (arith, on.0, on.1)

pub loop-element-preserved : goal.loop-element-preserved
unfolding print_behind
loop-element-preserved c =
    let on = c.print_own-own.ensures.onward (ap passing c.in-Component.is) in (
      omega (arith, on.0, c.loop-element.invariant.0),
      omega (arith, on.0, c.loop-element.invariant.1),
      sym (printing_behind _ _ _ _ _ _ _ _ _ c.print_own-own.ensures c.in-Component.is) ∙ c.loop-element.invariant.2,
    )
