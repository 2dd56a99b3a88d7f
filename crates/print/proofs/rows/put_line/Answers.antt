-- `print::rows::put_line` meets its contract.
use native.Mathlib.Omega.{arith}
use Rattle.print.proofs.Putting.{front-put}
use Rattle.print.proofs.rows.put_line.Goals as goal

pub put_line_at-requires : goal.put_line_at-requires
put_line_at-requires c = omega arith

pub returns : goal.returns
returns c =
    let each = front-put _ _ _ _ _ _ (c.put_line_at.ensures.value, c.put_line_at.ensures.out_after) in
    record { value = each.0; out_after = each.1 }
