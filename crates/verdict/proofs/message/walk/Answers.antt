-- `verdict::message::walk` meets its contract. The loop's invariant: `Standing`.
use mathlib.Core.Path.{refl, ap}
use Rattle.verdict.specs.workers.Segments.{told_of}
use native.Mathlib.Omega.{arith}
use Rattle.verdict.proofs.message.Judging.{passed_first}
use Rattle.verdict.proofs.message.Onward.{standing, walked, onward_refused, onward_stopped, further, walking_last, standing_on}
use Rattle.verdict.proofs.message.walk.Goals as goal

pub loop-head-init : goal.loop-head-init
loop-head-init c = passed_first _ _ _ _ _ _ c.begun-kept.ensures

pub returns-in_default : goal.returns-in_default
returns-in_default c =
    let s = c.loop-head.invariant.short in
    let each = walked _ _ _ _ _ _ _ _ _ _ _ (standing _ _ _ _ _ _ _ _ _ _ c.loop-head.invariant _ c.head_at.ensures) c.in_default.is (omega arith) in
    record { result_value = each.0; closable = each.1.0; result_value_2 = each.1.1 }

pub returns-then-head-stop : goal.returns-then-head-stop
returns-then-head-stop c =
    let each =
    onward_stopped _ _ _ _ _ _ _ _ _ _ _
    (standing _ _ _ _ _ _ _ _ _ _ c.loop-head.invariant _ c.head_at.ensures)
    _ c.in-Some.is _ c.segment_answer.ensures.value _ (ap told_of c.in-Ok.is)
    c.if-head-stop.true _ c.refused.ensures in
    record { result_value = each.0; closable = each.1.0; result_value_2 = each.1.1 }

pub returns-in-Err : goal.returns-in-Err
returns-in-Err c =
    let each =
    onward_refused _ _ _ _ _ _ _ _ _ _ _
    (standing _ _ _ _ _ _ _ _ _ _ c.loop-head.invariant _ c.head_at.ensures)
    _ c.in-Some.is _ c.segment_answer.ensures.value _ (ap told_of c.in-Err.is) _
    c.close_of-end.ensures _ c.refused-in-Err.ensures in
    record { result_value = each.0; closable = each.1.0; result_value_2 = each.1.1 }

pub returns-then-head : goal.returns-then-head
returns-then-head c =
    let on =
    walking_last _ _ _ _ _ _ _ _ _ _ _
    (standing _ _ _ _ _ _ _ _ _ _ c.loop-head.invariant _ c.head_at.ensures)
    _ c.in-Some.is _ c.segment_answer.ensures.value _ (ap told_of c.in-Ok.is) _ _ _ c.keep-kept.ensures.value c.keep-kept.ensures.undoubted_by
    c.segment_answer.ensures.counted_on c.if-head-stop.false c.if-head.true in
    let s = on.passed.short in
    let each = walked _ _ _ _ _ _ _ _ _ _ _ on refl (omega arith) in
    record { result_value = each.0; closable = each.1.0; result_value_2 = each.1.1 }

pub loop-head-smaller : goal.loop-head-smaller
loop-head-smaller c =
    let on =
    further _ _ _ _ _ _ _ _ _ _ _
    (standing _ _ _ _ _ _ _ _ _ _ c.loop-head.invariant _ c.head_at.ensures)
    _ c.in-Some.is _ c.segment_answer.ensures.value _ (ap told_of c.in-Ok.is) _ _ _ c.keep-kept.ensures.value c.keep-kept.ensures.undoubted_by
    c.segment_answer.ensures.counted_on c.if-head-stop.false in
    omega (arith, on.0, on.1)

pub loop-head-preserved : goal.loop-head-preserved
loop-head-preserved c =
    standing_on _ _ _ _ _ _ _ _ _ _ _
    (standing _ _ _ _ _ _ _ _ _ _ c.loop-head.invariant _ c.head_at.ensures)
    _ c.in-Some.is _ c.segment_answer.ensures.value _ (ap told_of c.in-Ok.is) _ _ _ c.keep-kept.ensures.value c.keep-kept.ensures.undoubted_by
    c.segment_answer.ensures.counted_on c.if-head-stop.false c.if-head.false
