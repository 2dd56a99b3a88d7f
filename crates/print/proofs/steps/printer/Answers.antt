-- `print::steps::printer` meets its contract.
use Rattle.print.proofs.Opened.{opened_refused, opened-left}
use Rattle.print.proofs.steps.printer.Goals as goal

pub returns-in-Err : goal.returns-in-Err
returns-in-Err c = opened_refused _ _ _ c.characters-syntax.ensures _ _ c.in-Err.ensures _ c.from.ensures _ c.starting-in-Err.ensures

pub returns-in-Ok : goal.returns-in-Ok
returns-in-Ok c = opened-left _ _ _ c.characters-syntax.ensures _ c.in-Ok.ensures _ c.opening.ensures c.starting.ensures
