-- `element::cursor::Cursor::step` meets its contract: each return by the law of its tests. Assumes nothing.
use mathlib.Core.Path.{sym}
use native.Mathlib.Omega.{arith}
use Rattle.element.proofs.cursor.Standing.{standing_of, past_end, past-element, past-component}
use Rattle.element.proofs.cursor.Onward.{step-at}
use Rattle.element.proofs.scan.Extents.{extent_end}
use Rattle.element.proofs.cursor.Cursor.step.Goals as goal

pub returns-then-limit-start : goal.returns-then-limit-start
returns-then-limit-start c = sym (past_end _ _ _ _ c.limit_of-limit.ensures c.if-limit-start.true)

pub returns-then-start-self : goal.returns-then-start-self
returns-then-start-self c = sym (past-element _ _ _ c.if-start-self.true)

pub returns-then-start-self-2 : goal.returns-then-start-self-2
returns-then-start-self-2 c = sym (past-component _ _ _ c.if-start-self-2.true)

pub after-next-requires : goal.after-next-requires
after-next-requires c =
    record {
      stands = standing_of _ _ (record { place = omega (arith, c.limit_of-limit.ensures); element = omega arith; component = omega arith });
      within = c.limit_of-limit.ensures;
      stops = extent_end _ _ _ _ _ c.component_from-end.ensures;
    }

pub returns : goal.returns
returns c =
    let stands = standing_of _ _ (record { place = omega (arith, c.limit_of-limit.ensures); element = omega arith; component = omega arith }) in
    let stops = extent_end _ _ _ _ _ c.component_from-end.ensures in
    sym (step-at _ _ _ _ _ (record { stands = stands; within = c.limit_of-limit.ensures; stops = stops }) _ c.after-next.ensures)
