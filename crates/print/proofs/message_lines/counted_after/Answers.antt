-- `print::message_lines::counted_after` meets its contract.
use Rattle.schaumtruhe.proofs.places.Begun.{ok-one}
use Rattle.print.proofs.message_lines.counted_after.Goals as goal

pub returns : goal.returns
returns c = rw (c.from.ensures, c.is_ok.ensures.value, ok-one _)
