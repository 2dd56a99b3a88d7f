-- `print::rows::put_word` meets its contract.
use native.Mathlib.Omega.{arith}
use Rattle.print.proofs.Putting.{word-pasted}
use Rattle.print.proofs.rows.put_word.Goals as goal

pub returns-clause-out_after : goal.returns-clause-out_after
returns-clause-out_after c = word-pasted _ _ _ _ _ c.copy_from_slice.ensures.after (omega arith) c.requires
