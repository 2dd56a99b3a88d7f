-- `print::message_lines::message` meets its contract.
use native.Mathlib.Omega.{arith}
use Rattle.print.proofs.Walking.{message-few, message_wrote}
use Rattle.print.proofs.message_lines.message.Goals as goal

pub counted_after-counts-requires : goal.counted_after-counts-requires
counted_after-counts-requires c = message-few _ _ _ c.requires.2 c.requires.1 (omega arith)

pub returns : goal.returns
returns c =
    rw c.new.ensures
    (message_wrote _ _ _ c.requires.2 _ c.past_breaks-start.ensures _
    c.judged-j.ensures _ _ _ _ _ c.counted_after-counts.ensures
    c.stage_after.ensures c.message_line-n.ensures.value c.message_line-n.ensures.out_after
    c.requires.1 c.requires.0)
