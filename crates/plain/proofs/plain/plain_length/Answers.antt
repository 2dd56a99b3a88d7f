-- `plain::plain::plain_length` meets its contract.
use native.Mathlib.Omega.{arith}
use Rattle.plain.proofs.Decoding.{count-within, counted-none, counted-behind}
use Rattle.plain.proofs.plain.plain_length.Goals as goal

pub returns-then-end-a : goal.returns-then-end-a
returns-then-end-a c = counted-none _ _ _ _ _ c.limit_of-end.ensures c.if-end-a.true

pub overflow_add-result : goal.overflow_add-result
overflow_add-result c =
    let k = count-within _ _ _ _ _ c.literal_count.ensures in
    omega (arith, c.first_that-i.ensures.within)

pub returns : goal.returns
returns c = counted-behind _ _ _ _ _ c.limit_of-end.ensures _ _ c.if-end-a.false c.first_that-i.ensures c.literal_count.ensures
