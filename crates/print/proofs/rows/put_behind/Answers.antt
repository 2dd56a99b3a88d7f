-- `print::rows::put_behind` meets its contract.
use mathlib.Core.Path.{◌∙◌}
use lib.ListN.{length-set}
use mir.Facts.{to_z-of_z}
use Rattle.print.proofs.Putting.{behind-put}
use Rattle.print.proofs.rows.put_behind.Goals as goal

pub shape_of-out : goal.shape_of-out
shape_of-out c =
    let second = c.put_amount-n in
    length-set second.new.out second.result 10 ∙ second.auto.out ∙ c.put_amount-m.auto.out

pub returns : goal.returns
returns c =
    let each = behind-put _ _ _ _ _ _ _ _ _ _ (to_z-of_z c.ranges.amount) (to_z-of_z c.ranges.decimals)
    c.put_amount-m.ensures.value
    c.put_amount-m.ensures.out_after
    c.put_amount-n.ensures.value c.put_amount-n.ensures.out_after in
    record { value = each.0; out_after = each.1 }
