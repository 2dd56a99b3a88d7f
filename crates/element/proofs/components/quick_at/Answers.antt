-- `element::components::quick_at` meets its contract. The loop's invariant: what is left to count leads to the component (`Counting`), and what is tested.
use mathlib.Core.Path.{refl, sym, ap, ◌∙◌}
use native.Mathlib.Omega.{arith}
use Rattle.element.specs.declared.ahead.Scan.{Scan}
use Rattle.element.proofs.ahead.Behind.{sought_stop, sought_ends}
use Rattle.element.proofs.ahead.Flags.{scan_begins}
use Rattle.element.proofs.components.Counting.{count-start, count-found, count-last, count-component, count_out, count-element, count_on}
use Rattle.element.proofs.components.quick_at.Goals as goal

pub loop-behind-init : goal.loop-behind-init
loop-behind-init c =
    let p = c.requires in
    let u = c.untested-scan.ensures in
    (count-start _ _ _ _ _ _ p.0 p.1 _ (ap (λ (s : Scan). s.at) u), scan_begins _ _ _ _ (omega (arith, p)) u)

pub overflow_sub-stop : goal.overflow_sub-stop
overflow_sub-stop c = omega (arith, (c.in_ok-behind.ensures c.loop-behind.invariant.1).onward)

pub bounds-d-stop : goal.bounds-d-stop
bounds-d-stop c = omega (arith, c.if-limit-stop.false, c.loop-behind.invariant.0.walks.within)

pub returns-then-c-eq0 : goal.returns-then-c-eq0
returns-then-c-eq0 c =
    count-found _ _ _ _ _ _ _ _ _ c.loop-behind.invariant.0 _
    (sought_stop _ _ _ _ c.requires.1 _ (c.in_ok-behind.ensures c.loop-behind.invariant.1) _ refl c.if-limit-stop.false c.if-x-d.false)
    c.if-e-eq0.true c.if-c-eq0.true

pub returns-then-x-d-2 : goal.returns-then-x-d-2
returns-then-x-d-2 c =
    count-last _ _ _ _ _ _ _ _ _ c.loop-behind.invariant.0 _
    (sought_stop _ _ _ _ c.requires.1 _ (c.in_ok-behind.ensures c.loop-behind.invariant.1) _ refl c.if-limit-stop.false c.if-x-d.false)
    c.if-limit-stop.false c.if-e-eq0.true c.if-c-eq0.false
    (sought_ends _ _ _ _ c.requires.1 _ (c.in_ok-behind.ensures c.loop-behind.invariant.1) _ refl c.if-limit-stop.false c.if-x-d.false)
    c.if-x-d-2.true

pub overflow_sub-c : goal.overflow_sub-c
overflow_sub-c c = omega (arith, c.if-c-eq0.false)

pub returns-then-x-d-3 : goal.returns-then-x-d-3
returns-then-x-d-3 c =
    count_out _ _ _ _ _ _ _ _ _ c.loop-behind.invariant.0 _
    (sought_stop _ _ _ _ c.requires.1 _ (c.in_ok-behind.ensures c.loop-behind.invariant.1) _ refl c.if-limit-stop.false c.if-x-d.false)
    c.if-limit-stop.false c.if-e-eq0.false
    c.if-x-d-3.true

pub overflow_sub-e : goal.overflow_sub-e
overflow_sub-e c = omega (arith, c.if-e-eq0.false)

pub loop-behind-smaller-else-x-d-2 : goal.loop-behind-smaller-else-x-d-2
loop-behind-smaller-else-x-d-2 c =
    omega (arith, c.if-limit-stop.false, (c.in_ok-behind.ensures c.loop-behind.invariant.1).onward)

pub loop-behind-preserved-else-x-d-2 : goal.loop-behind-preserved-else-x-d-2
loop-behind-preserved-else-x-d-2 c = (
  count-component _ _ _ _ _ _ _ _ _ c.loop-behind.invariant.0 _
      (sought_stop _ _ _ _ c.requires.1 _ (c.in_ok-behind.ensures c.loop-behind.invariant.1) _ refl c.if-limit-stop.false c.if-x-d.false)
      c.if-limit-stop.false c.if-e-eq0.true c.if-c-eq0.false
      (sym c.has_usual_services.ensures ∙ c.if-not-has_usual_services.false) c.if-x-d-2.false _ _ refl
      (omega (arith, (c.in_ok-behind.ensures c.loop-behind.invariant.1).onward)),
  (c.in_ok-behind.ensures c.loop-behind.invariant.1).scanned,
)

pub loop-behind-smaller-then-x-d-4 : goal.loop-behind-smaller-then-x-d-4
loop-behind-smaller-then-x-d-4 c =
    omega (arith, c.if-limit-stop.false, (c.in_ok-behind.ensures c.loop-behind.invariant.1).onward)

pub loop-behind-preserved-then-x-d-4 : goal.loop-behind-preserved-then-x-d-4
loop-behind-preserved-then-x-d-4 c = (
  count-element _ _ _ _ _ _ _ _ _ c.loop-behind.invariant.0 _
      (sought_stop _ _ _ _ c.requires.1 _ (c.in_ok-behind.ensures c.loop-behind.invariant.1) _ refl c.if-limit-stop.false c.if-x-d.false)
      c.if-limit-stop.false c.if-e-eq0.false c.if-x-d-3.false c.if-x-d-4.true _ _ refl
      (omega (arith, (c.in_ok-behind.ensures c.loop-behind.invariant.1).onward)),
  (c.in_ok-behind.ensures c.loop-behind.invariant.1).scanned,
)

pub loop-behind-smaller : goal.loop-behind-smaller
loop-behind-smaller c =
    omega (arith, c.if-limit-stop.false, (c.in_ok-behind.ensures c.loop-behind.invariant.1).onward)

pub loop-behind-preserved : goal.loop-behind-preserved
loop-behind-preserved c = (
  count_on _ _ _ _ _ _ _ _ _ c.loop-behind.invariant.0 _
      (sought_stop _ _ _ _ c.requires.1 _ (c.in_ok-behind.ensures c.loop-behind.invariant.1) _ refl c.if-limit-stop.false c.if-x-d.false)
      c.if-limit-stop.false c.if-e-eq0.false c.if-x-d-3.false c.if-x-d-4.false _
      (omega (arith, (c.in_ok-behind.ensures c.loop-behind.invariant.1).onward)),
  (c.in_ok-behind.ensures c.loop-behind.invariant.1).scanned,
)
