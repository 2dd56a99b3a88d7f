-- `page::formed::empty_fault` meets its contract: each return by its tests.
use Rattle.guide.specs.workers.Moods.{is_must}
use Rattle.page.specs.workers.Words.{row_in}
use mathlib.Core.Path.{sym, ◌∙◌}
use Rattle.page.proofs.formed.Faults.{not-asked, asked-must, asked-may}
use Rattle.page.proofs.formed.empty_fault.Goals as goal

pub returns-then-not-asked : goal.returns-then-not-asked
returns-then-not-asked c = not-asked (is_must (row_in c.args.row)) c.args.asked c.if-not-asked.true

pub returns-then-is_must : goal.returns-then-is_must
returns-then-is_must c =
    asked-must _ _ c.if-not-asked.false (sym c.is_must.ensures ∙ c.if-is_must.true)

pub returns : goal.returns
returns c = asked-may _ _ (sym c.is_must.ensures ∙ c.if-is_must.false)
