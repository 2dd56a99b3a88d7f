-- `cut::Cursor::step` meets its contract.
use mathlib.Core.Path.{sym, ◌∙◌}
use Rattle.cut.proofs.Refusing.{read_some, read_none}
use Rattle.cut.proofs.Stepping.{step_refused, step_cut}
use Rattle.cut.proofs.steps.Cursor.step.Goals as goal

pub returns-in_err-ok : goal.returns-in_err-ok
returns-in_err-ok c =
    c.from_residual.ensures ∙ sym (step_refused _ _ (λ e. read_none _ (sym c.ok.ensures.value ∙ c.in_err-ok.was) (c.admission.ensures ∙ e)))

pub returns : goal.returns
returns c =
    sym
    (step_cut _ _ _ _ _ _
    (sym c.admission.ensures ∙ read_some _ _ (sym c.ok.ensures.value ∙ c.in_ok-ok.was))
    c.opening.ensures
    c.max.ensures
    c.segment_at.ensures
    c.in_ok-found.was)

pub returns-in_err-found : goal.returns-in_err-found
returns-in_err-found c =
    c.from_residual-in_err-found.ensures ∙ sym
    (step_cut _ _ _ _ _ _
    (sym c.admission.ensures ∙ read_some _ _ (sym c.ok.ensures.value ∙ c.in_ok-ok.was))
    c.opening.ensures
    c.max.ensures
    c.segment_at.ensures
    c.in_err-found.was)
