-- `page::marks::marks` meets its contract.
use mathlib.Core.Path.{sym, ◌∙◌, ap}
use Rattle.std.specs.Prelude.{Option, is_some}
use Rattle.element.specs.declared.endings.Ending.{Ending}
use Rattle.page.proofs.marks.Releases.{mark_alone}
use Rattle.page.proofs.marks.marks.Goals as goal

pub returns : goal.returns
returns c = mark_alone _ _ (ap (λ (g : Option Ending). is_some g) (sym c.ending_of.ensures) ∙ c.is_none.ensures)
