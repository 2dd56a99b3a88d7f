-- `print::price_lines::opening` meets its contract.
use Rattle.print.proofs.Putting.{opened-present, opened_absent}
use Rattle.print.proofs.price_lines.opening.Goals as goal

pub returns-then-from-to : goal.returns-then-from-to
returns-then-from-to c =
    let each = opened-present _ _ _ _ _ _ c.put_line-n.ensures.value c.put_line-n.ensures.out_after c.if-from-to.true in
    record { value = each.0; out_after = each.1 }

pub returns : goal.returns
returns c =
    let each = opened_absent _ _ _ _ _ _ c.put_line-n.ensures.value c.put_line-n.ensures.out_after c.if-from-to.false in
    record { value = each.0; out_after = each.1 }
