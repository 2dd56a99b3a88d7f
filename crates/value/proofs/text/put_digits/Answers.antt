-- `value::text::put_digits` meets its contract. The loop's invariant is `Putting`: the digits that are written, and the number that is left.
use native.Mathlib.Omega.{arith}
use Rattle.value.proofs.Texts.{put-start, put_more, put_end}
use Rattle.value.proofs.text.put_digits.Goals as goal

pub loop-left-init : goal.loop-left-init
loop-left-init c = put-start _ _ c.told-out (omega arith)

pub overflow_sub-at : goal.overflow_sub-at
overflow_sub-at c = omega arith

pub overflow_cast-out : goal.overflow_cast-out
overflow_cast-out c = omega arith

pub overflow_add-out : goal.overflow_add-out
overflow_add-out c = omega arith

pub bounds-out-at : goal.bounds-out-at
bounds-out-at c = omega arith

pub returns-then-left-eq0 : goal.returns-then-left-eq0
returns-then-left-eq0 c =
    let each = put_end _ _ _ _ _ c.loop-left.invariant c.if-left-eq0.true in
    record { m_value = each.0; out_after = each.1 }

pub loop-left-smaller : goal.loop-left-smaller
loop-left-smaller c = omega arith

pub loop-left-preserved : goal.loop-left-preserved
loop-left-preserved c = put_more _ _ _ _ _ c.loop-left.invariant c.if-left-eq0.false
