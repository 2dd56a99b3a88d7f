-- `page::formed::text_fault` meets its contract: empty or not.
use mathlib.Core.Path.{sym, ◌∙◌}
use native.Mathlib.Omega.{arith}
use Rattle.page.proofs.formed.Faults.{empty-text, filled-any}
use Rattle.page.proofs.formed.text_fault.Goals as goal

pub returns-then-n-eq0 : goal.returns-then-n-eq0
returns-then-n-eq0 c = c.empty_fault.ensures ∙ empty-text _ _ _ _ (sym c.requires ∙ c.if-n-eq0.true)

pub filled_fault-requires : goal.filled_fault-requires
filled_fault-requires c = (c.requires, omega (arith, c.if-n-eq0.false))

pub returns : goal.returns
returns c =
    let l = c.requires in
    let w = c.if-n-eq0.false in
    c.filled_fault.ensures ∙ filled-any _ _ _ (omega arith) _
