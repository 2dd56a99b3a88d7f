-- `envelope::judging::judged` meets its contract: one law for each return.
use Rattle.std.proofs.Common.{sym, ap, ◌∙◌}
use Rattle.cut.specs.Admission.{admission_number}
use Rattle.envelope.proofs.rows.Answers.{is-carried, is-empty, is-not-UNB, is-UNB}
use Rattle.envelope.proofs.judging.judged.Goals as goal

pub returns-in_err-admission : goal.returns-in_err-admission
returns-in_err-admission c =
    is-carried _ _ _ (ap admission_number (sym c.in_err-admission.was) ∙ c.admission.ensures) _ c.from_residual.ensures.1

pub returns-in_default : goal.returns-in_default
returns-in_default c =
    is-empty _ _ (sym c.admission.ensures ∙ ap admission_number c.in_ok-admission.was) _ c.opening.ensures
    (sym c.segment_at.ensures ∙ c.in_default.is)

pub returns-then-not-is_whole : goal.returns-then-not-is_whole
returns-then-not-is_whole c =
    is-not-UNB _ _ (sym c.admission.ensures ∙ ap admission_number c.in_ok-admission.was) _ c.opening.ensures _ _ _
    (sym c.segment_at.ensures ∙ c.in-Some.is) (sym c.is_whole.ensures ∙ c.if-not-is_whole.true)

pub closed-requires : goal.closed-requires
closed-requires c =
    is-UNB _ _ (sym c.admission.ensures ∙ ap admission_number c.in_ok-admission.was) _ c.opening.ensures _ _ _
    (sym c.segment_at.ensures ∙ c.in-Some.is) (sym c.is_whole.ensures ∙ c.if-not-is_whole.false)
