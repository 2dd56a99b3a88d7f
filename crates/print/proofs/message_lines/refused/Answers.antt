-- `print::message_lines::refused` meets its contract.
use native.Mathlib.Omega.{arith}
use Rattle.print.proofs.Sounds.{ended_wrote}
use Rattle.print.proofs.message_lines.refused.Goals as goal

pub returns : goal.returns
returns c =
    rw c.new.ensures
    (ended_wrote _ _ _ _ _ _ _ _ c.requires.1 c.put_line-n.ensures.value
    c.put_line-n.ensures.out_after (omega arith))
