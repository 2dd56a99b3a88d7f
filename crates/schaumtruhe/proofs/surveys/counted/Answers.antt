-- `schaumtruhe::surveys::counted` meets its contract. The loop's invariant: `Passed`.
use mathlib.Core.Path.{sym, ap, ◌∙◌}
use native.Mathlib.Omega.{arith}
use Rattle.std.specs.Prelude.{Some}
use Rattle.std.specs.Int.{from_bool}
use Rattle.schaumtruhe.proofs.places.Begun.{ok-one}
use Rattle.std.proofs.lemmas.Result.{err_from_is_err_and}
use Rattle.schaumtruhe.proofs.Refusals.{some_reason}
use Rattle.schaumtruhe.proofs.surveys.Steps.{passed_first, passed_message, message-within, passed-outside, outside-within, passed-all, survey_refused}
use Rattle.schaumtruhe.proofs.surveys.counted.Goals as goal

pub returns-in_err-admission : goal.returns-in_err-admission
returns-in_err-admission c =
    let p = err_from_is_err_and c.from_residual.result c.from_residual.ensures.1 in
    rw (p.1, p.2) (survey_refused _ _ _ c.in_err-admission.ensures (some_reason _))

pub loop-outer-init : goal.loop-outer-init
loop-outer-init c = passed_first _ _ c.in_ok-admission.ensures _ c.opening-at.ensures

pub overflow_add-counts : goal.overflow_add-counts
overflow_add-counts c =
    let h = sym c.in-Some.ensures ∙ ap Some c.in-Message.is in
    let p = passed_message _ _ _ _ _ _ c.loop-outer.invariant h _ c.judged-j.ensures in
    let w = message-within _ _ _ _ _ _ c.loop-outer.invariant h _ c.judged-j.ensures in
    record { fits = omega (arith, p.few.0, w.1) }

pub overflow_add-counts-in-Message : goal.overflow_add-counts-in-Message
overflow_add-counts-in-Message c =
    let h = sym c.in-Some.ensures ∙ ap Some c.in-Message.is in
    let p = passed_message _ _ _ _ _ _ c.loop-outer.invariant h _ c.judged-j.ensures in
    let w = message-within _ _ _ _ _ _ c.loop-outer.invariant h _ c.judged-j.ensures in
    let o = c.from.ensures ∙ ap from_bool c.is_ok.ensures.value ∙ ok-one _ in
    record { fits = omega (arith, p.few.1, w.1, o) }

pub loop-outer-smaller-in-Message : goal.loop-outer-smaller-in-Message
loop-outer-smaller-in-Message c =
    let h = sym c.in-Some.ensures ∙ ap Some c.in-Message.is in
    let w = message-within _ _ _ _ _ _ c.loop-outer.invariant h _ c.judged-j.ensures in
    omega (arith, w.0, w.1)

pub loop-outer-preserved-in-Message : goal.loop-outer-preserved-in-Message
loop-outer-preserved-in-Message c =
    let h = sym c.in-Some.ensures ∙ ap Some c.in-Message.is in
    let o = c.from.ensures ∙ ap from_bool c.is_ok.ensures.value ∙ ok-one _ in
    rw o (passed_message _ _ _ _ _ _ c.loop-outer.invariant h _ c.judged-j.ensures)

pub overflow_add-counts-in-Segment : goal.overflow_add-counts-in-Segment
overflow_add-counts-in-Segment c =
    let h = sym c.in-Some.ensures ∙ ap Some c.in-Segment.is in
    let p = passed-outside _ _ _ _ _ _ c.loop-outer.invariant _ h in
    let w = outside-within _ _ _ _ _ _ c.loop-outer.invariant _ h in
    record { fits = omega (arith, p.few.2, w.1) }

pub loop-outer-smaller : goal.loop-outer-smaller
loop-outer-smaller c =
    let h = sym c.in-Some.ensures ∙ ap Some c.in-Segment.is in
    let w = outside-within _ _ _ _ _ _ c.loop-outer.invariant _ h in
    omega (arith, w.0, w.1)

pub loop-outer-preserved : goal.loop-outer-preserved
loop-outer-preserved c =
    let h = sym c.in-Some.ensures ∙ ap Some c.in-Segment.is in
    passed-outside _ _ _ _ _ _ c.loop-outer.invariant _ h

pub returns : goal.returns
returns c = passed-all _ _ _ _ _ _ c.loop-outer.invariant (sym c.in_default.ensures) c.in_ok-admission.ensures
