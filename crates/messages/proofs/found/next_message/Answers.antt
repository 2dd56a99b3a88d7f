-- `messages::found::next_message` meets its contract.
use mathlib.Core.Path.{sym, ◌∙◌}
use Rattle.cut.proofs.Refusing.{read_some, read_none}
use Rattle.messages.proofs.Finding.{next_refused, next-found}
use Rattle.messages.proofs.found.next_message.Goals as goal

pub returns-in_err-ok : goal.returns-in_err-ok
returns-in_err-ok c =
    c.from_residual.ensures ∙ sym (next_refused _ _ _ (λ e. read_none _ (sym c.ok.ensures.value ∙ c.in_err-ok.was) (c.admission.ensures ∙ e)))

pub returns : goal.returns
returns c =
    c.next_from.ensures
    ∙ sym
    (next-found _ _ _ _ _
    (sym c.admission.ensures ∙ read_some _ _ (sym c.ok.ensures.value ∙ c.in_ok-ok.was))
    c.opening.ensures c.first_from.ensures)
