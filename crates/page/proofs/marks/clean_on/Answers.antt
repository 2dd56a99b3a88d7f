-- `page::marks::clean_on` meets its contract. The loop's invariant: the component goes on behind the release marks that are passed.
use Prim.Native.Nat.{◌+◌}
use mathlib.Core.Path.{refl, sym, ap, ◌∙◌}
use native.Mathlib.Omega.{arith}
use Rattle.clean.specs.Clean.{between}
use Rattle.element.specs.declared.ahead.Scan.{Scan}
use Rattle.page.proofs.marks.Clean.{Clean, clean-first, clean_found, clean-mark}
use Rattle.page.proofs.marks.clean_on.Goals as goal
use Rattle.page.proofs.marks.clean_on.Goals.{After-untested-from}

-- it goes on behind the byte that is released
goes : (c : After-untested-from) → Clean c.args.d.syntax c.args.d.bytes.now c.args.scan.at c.untested-from.result (c.loop-behind.removed + 1)
goes c =
    let found = c.in_ok-released.ensures.lookup.3 in
    clean-mark _ c.requires.0 _ _ _ _ c.loop-behind.invariant _ (c.in_ok-behind.ensures c.loop-behind.invariant.scanned) _ refl c.if-d-end.false
    (omega (arith, found.0))
    (sym c.marks.ensures ∙ c.if-not-marks.false)
    (sym (ap (between 32 126) (found.1 0)) ∙ sym c.is_text.ensures ∙ c.if-not-is_text.false) _ c.untested-from.ensures

pub loop-behind-init : goal.loop-behind-init
loop-behind-init c = clean-first _ _ _ c.requires.1 c.requires.2

pub bounds-d-end : goal.bounds-d-end
bounds-d-end c =
    let s = c.in_ok-behind.ensures c.loop-behind.invariant.scanned in
    omega (arith, s.onward, s.scanned.ahead, s.scanned.within)

pub overflow_sub-result : goal.overflow_sub-result
overflow_sub-result c =
    let s = c.in_ok-behind.ensures c.loop-behind.invariant.scanned in
    omega (arith, s.onward, c.loop-behind.invariant.past.onward)

pub overflow_sub-result-then-d-end : goal.overflow_sub-result-then-d-end
overflow_sub-result-then-d-end c =
    let s = c.in_ok-behind.ensures c.loop-behind.invariant.scanned in
    omega (arith, s.onward, c.loop-behind.invariant.past.onward)

pub returns-then-d-end : goal.returns-then-d-end
returns-then-d-end c = clean_found _ c.requires.0 _ _ _ _ c.loop-behind.invariant _
    (c.in_ok-behind.ensures c.loop-behind.invariant.scanned) _ refl c.if-d-end.true

pub overflow_add-end : goal.overflow_add-end
overflow_add-end c =
    let s = c.in_ok-behind.ensures c.loop-behind.invariant.scanned in
    omega (arith, s.scanned.ahead, s.scanned.within)

pub overflow_add-removed : goal.overflow_add-removed
overflow_add-removed c =
    let g = goes (goal.at.overflow_add-removed c).After-untested-from in
    omega (arith, g.past.onward, g.past.within)

pub loop-behind-smaller : goal.loop-behind-smaller
loop-behind-smaller c =
    let g = goes (goal.at.loop-behind-smaller c).After-untested-from in
    let s = c.in_ok-behind.ensures c.loop-behind.invariant.scanned in
    let z = ap (λ (x : Scan). x.at) c.untested-from.ensures in
    omega (arith, s.onward, g.past.within)

pub loop-behind-preserved : goal.loop-behind-preserved
loop-behind-preserved c = goes (goal.at.loop-behind-preserved c).After-untested-from
