-- `page::reads::read_through` meets its contract: one law for each return.
use mathlib.Core.Path.{sym, ◌∙◌, refl}
use Rattle.guide.proofs.Reasons.{number-some}
use Rattle.page.proofs.reads.Faults.{read_nothing, read_bytes, read_page}
use Rattle.page.proofs.reads.read_through.Goals as goal

pub returns-in_default : goal.returns-in_default
returns-in_default c = read_nothing _ _ _ _ _ (sym c.in_default.is ∙ c.cut_at.ensures)

pub returns-in-Err : goal.returns-in-Err
returns-in-Err c = read_bytes _ _ _ _ _ _ (sym c.in-Some.is ∙ c.cut_at.ensures) _ c.in-Err.ensures (number-some _)

pub returns-in-Ok : goal.returns-in-Ok
returns-in-Ok c = read_page _ _ _ _ _ _ (sym c.in-Some.is ∙ c.cut_at.ensures) _ c.in_default-bytes_fault.ensures refl _ c.in-Ok.ensures

pub returns-in-Err-examined : goal.returns-in-Err-examined
returns-in-Err-examined c =
    read_page _ _ _ _ _ _ (sym c.in-Some.is ∙ c.cut_at.ensures) _ c.in_default-bytes_fault.ensures refl _ c.in-Err-examined.ensures
