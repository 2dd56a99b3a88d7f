-- `print::message_lines::message_line` meets its contract.
use Rattle.print.proofs.Walking.{accepted-line, refused_line}
use Rattle.print.proofs.message_lines.message_line.Goals as goal

pub returns-in-Ok : goal.returns-in-Ok
returns-in-Ok c =
    let each = accepted-line _ _ _ _ _ _ _ c.in-Ok.is (c.put_line.ensures.value, c.put_line.ensures.out_after) in
    record { value = each.0; out_after = each.1 }

pub returns-in-Err : goal.returns-in-Err
returns-in-Err c =
    let each = refused_line _ _ _ _ _ _ _ c.in-Err.is _ c.from-reason.ensures (c.put_line-in-Err.ensures.value, c.put_line-in-Err.ensures.out_after) in
    record { value = each.0; out_after = each.1 }
