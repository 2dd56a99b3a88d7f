-- `value::digit_runs::plain_digits` meets its contract: each answer is a law of the digits before and behind the mark, behind the sign.
use native.Mathlib.Omega.{arith}
use Rattle.value.proofs.DigitRuns.{no_bytes, sign_within, signed-count, told_none, told_whole, told_other, told_mark-last, told_more, told_mark, digits-end}
use Rattle.value.proofs.digit_runs.plain_digits.Goals as goal

pub returns-then-end-a : goal.returns-then-end-a
returns-then-end-a c = no_bytes _ _ _ _ _ c.limit_of-end.ensures c.if-end-a.true

pub returns-then-mark-from : goal.returns-then-mark-from
returns-then-mark-from c =
    signed-count _ _ _ _ _ c.limit_of-end.ensures c.if-end-a.false _ c.behind_sign-from.ensures _
    (told_none _ _ _ _ _ (omega arith)
    (digits-end _ _ _ _ (sign_within _ _ _ _ c.if-end-a.false c.behind_sign-from.ensures) (omega (arith, c.limit_of-end.ensures)) c.first_that-mark.ensures)
    c.if-mark-from.true)

pub overflow_sub-result : goal.overflow_sub-result
overflow_sub-result c =
    let within = sign_within _ _ _ _ c.if-end-a.false c.behind_sign-from.ensures in
    omega arith

pub returns-then-end-mark : goal.returns-then-end-mark
returns-then-end-mark c =
    let within = sign_within _ _ _ _ c.if-end-a.false c.behind_sign-from.ensures in
    signed-count _ _ _ _ _ c.limit_of-end.ensures c.if-end-a.false _ c.behind_sign-from.ensures _
    (told_whole _ _ _ _ _ (omega arith)
    (digits-end _ _ _ _ (sign_within _ _ _ _ c.if-end-a.false c.behind_sign-from.ensures) (omega (arith, c.limit_of-end.ensures)) c.first_that-mark.ensures)
    within (omega arith) c.if-end-mark.true)

pub returns-then-d-mark : goal.returns-then-d-mark
returns-then-d-mark c =
    signed-count _ _ _ _ _ c.limit_of-end.ensures c.if-end-a.false _ c.behind_sign-from.ensures _
    (told_other _ _ _ _ _ (omega arith)
    (digits-end _ _ _ _ (sign_within _ _ _ _ c.if-end-a.false c.behind_sign-from.ensures) (omega (arith, c.limit_of-end.ensures)) c.first_that-mark.ensures)
    c.if-end-mark.false c.if-d-mark.true)

pub returns-then-last-mark : goal.returns-then-last-mark
returns-then-last-mark c =
    signed-count _ _ _ _ _ c.limit_of-end.ensures c.if-end-a.false _ c.behind_sign-from.ensures _
    (told_mark-last _ _ _ _ _ (omega arith)
    (digits-end _ _ _ _ (sign_within _ _ _ _ c.if-end-a.false c.behind_sign-from.ensures) (omega (arith, c.limit_of-end.ensures)) c.first_that-mark.ensures)
    c.if-end-mark.false _
    (digits-end _ _ _ _ (omega (arith, c.if-end-mark.false)) (omega (arith, c.limit_of-end.ensures)) c.first_that-last.ensures)
    c.if-last-mark.true)

pub returns-then-last-end : goal.returns-then-last-end
returns-then-last-end c =
    signed-count _ _ _ _ _ c.limit_of-end.ensures c.if-end-a.false _ c.behind_sign-from.ensures _
    (told_more _ _ _ _ _ (omega arith)
    (digits-end _ _ _ _ (sign_within _ _ _ _ c.if-end-a.false c.behind_sign-from.ensures) (omega (arith, c.limit_of-end.ensures)) c.first_that-mark.ensures)
    c.if-end-mark.false _
    (digits-end _ _ _ _ (omega (arith, c.if-end-mark.false)) (omega (arith, c.limit_of-end.ensures)) c.first_that-last.ensures)
    c.if-last-end.true)

pub returns : goal.returns
returns c =
    signed-count _ _ _ _ _ c.limit_of-end.ensures c.if-end-a.false _ c.behind_sign-from.ensures _
    (told_mark _ _ _ _ _ (omega arith)
    (digits-end _ _ _ _ (sign_within _ _ _ _ c.if-end-a.false c.behind_sign-from.ensures) (omega (arith, c.limit_of-end.ensures)) c.first_that-mark.ensures)
    c.if-end-mark.false _
    (digits-end _ _ _ _ (omega (arith, c.if-end-mark.false)) (omega (arith, c.limit_of-end.ensures)) c.first_that-last.ensures)
    (omega arith) c.if-d-mark.false (omega arith) c.if-last-end.false)
