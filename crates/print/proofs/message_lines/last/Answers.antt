-- `print::message_lines::last` meets its contract.
use Rattle.print.proofs.Walking.{last_wrote}
use Rattle.print.proofs.message_lines.last.Goals as goal

pub returns : goal.returns
returns c =
    rw c.new.ensures
    (last_wrote _ _ _ _ _ _ _ _ _ c.requires.1 c.judged.ensures (c.envelope_line-v.ensures.value, c.envelope_line-v.ensures.out_after)
    (c.put_line_at-n.ensures.value, c.put_line_at-n.ensures.out_after) c.requires.0)
