-- `schaumtruhe_c::calls::schaumtruhe_plain` meets its contract.
use mathlib.Core.Path.{refl}
use Rattle.schaumtruhe.proofs.Refusals.{some_reason}
use Rattle.schaumtruhe_c.proofs.Parts.{plain_refused, plain_copied}
use Rattle.schaumtruhe_c.proofs.calls.schaumtruhe_plain.Goals as goal

pub returns-in-Err : goal.returns-in-Err
returns-in-Err c =
    let a = c.args in
    let each = plain_refused a.y _ a.d.now a.place a.count _ c.characters-z.ensures c.in-Err.ensures a.out.now (some_reason _) in
    record { value = each.0; out_after = each.1 }

pub returns-in-Ok : goal.returns-in-Ok
returns-in-Ok c =
    let a = c.args in
    let each =
    plain_copied a.y _ a.d.now a.place a.count _ c.characters-z.ensures c.in-Ok.ensures _ _ a.out.now _ refl
    c.behind-end.ensures c.plain_length.ensures c.copy_plain.ensures.out_after in
    record { value = each.0; out_after = each.1 }
