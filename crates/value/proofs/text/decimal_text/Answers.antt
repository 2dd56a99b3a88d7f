-- `value::text::decimal_text` meets its contract: the sign goes into the place before the digits.
use Rattle.value.proofs.Texts.{room-left, minus-put, plain-put}
use Rattle.value.proofs.text.decimal_text.Goals as goal

pub overflow_sub-out : goal.overflow_sub-out
overflow_sub-out c =
    room-left _ c.ranges.n _ _ c.unsigned_abs.ensures.value c.put_digits-at.ensures.m_value

pub returns-then-n-lt0 : goal.returns-then-n-lt0
returns-then-n-lt0 c =
    let each = minus-put _
    c.ranges.n
    _
    _
    c.unsigned_abs.ensures.value
    c.put_digits-at.ensures.m_value
    _
    _
    c.told-out
    c.put_digits-at.ensures.out_after
    c.if-n-lt0.true in
    record { value = each.0; out_after = each.1 }

pub returns : goal.returns
returns c =
    let each = plain-put _
    c.ranges.n
    _
    _
    c.unsigned_abs.ensures.value
    c.put_digits-at.ensures.m_value
    _
    _
    c.told-out
    c.put_digits-at.ensures.out_after
    c.if-n-lt0.false in
    record { value = each.0; out_after = each.1 }
