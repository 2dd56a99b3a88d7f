-- `schaumtruhe::judging::verdict_at` meets its contract.
use mathlib.Core.Path.{sym, ap, ◌∙◌}
use Rattle.std.proofs.lemmas.Result.{err_from_is_err_and}
use Rattle.verdict.specs.Answers.{told}
use Rattle.schaumtruhe.proofs.Refusals.{some-number}
use Rattle.schaumtruhe.proofs.judging.Verdicts.{none-judged, message-judged}
use Rattle.schaumtruhe.proofs.judging.verdict_at.Goals as goal

pub returns-in_err-message_begins : goal.returns-in_err-message_begins
returns-in_err-message_begins c =
    let p = err_from_is_err_and c.from_residual.result c.from_residual.ensures.1 in
    rw (p.1, p.2) (none-judged _ _ _ _ c.in_err-message_begins.ensures (some-number _))

pub returns-in_err-accepted : goal.returns-in_err-accepted
returns-in_err-accepted c =
    let p = err_from_is_err_and c.from_residual-in_err-accepted.result c.from_residual-in_err-accepted.ensures.1 in
    rw (p.1, p.2) (sym (ap told c.in_err-accepted.was) ∙ message-judged _ _ _ c.in_ok-message_begins.ensures _ c.judged.ensures)

pub returns : goal.returns
returns c = sym (ap told c.in_ok-accepted.was) ∙ message-judged _ _ _ c.in_ok-message_begins.ensures _ c.judged.ensures
