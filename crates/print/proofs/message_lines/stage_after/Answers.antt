use Rattle.print.proofs.message_lines.stage_after.Goals as goal

pub returns-in-Ok : goal.returns-in-Ok
returns-in-Ok c = rw (c.in-Ok.is, c.first_price-cursor.ensures)
