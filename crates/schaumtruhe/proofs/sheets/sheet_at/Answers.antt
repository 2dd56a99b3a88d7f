-- `schaumtruhe::sheets::sheet_at` meets its contract.
use Rattle.std.proofs.lemmas.Result.{err_from_is_err_and}
use Rattle.schaumtruhe.proofs.Refusals.{some-number}
use Rattle.schaumtruhe.proofs.judging.Verdicts.{none-stands, message-stands, message_refused}
use Rattle.schaumtruhe.proofs.sheets.sheet_at.Goals as goal

pub returns-in_err-message_begins : goal.returns-in_err-message_begins
returns-in_err-message_begins c =
    let p = err_from_is_err_and c.from_residual.result c.from_residual.ensures.1 in
    rw (p.1, p.2) (none-stands _ _ _ _ c.in_err-message_begins.ensures (some-number _))

pub returns-in-Ok : goal.returns-in-Ok
returns-in-Ok c = message-stands _ _ _ c.in_ok-message_begins.ensures _ c.judged-j.ensures _ c.in-Ok.is

pub returns-in-Err : goal.returns-in-Err
returns-in-Err c = message_refused _ _ _ c.in_ok-message_begins.ensures _ c.judged-j.ensures _ c.in-Err.is
