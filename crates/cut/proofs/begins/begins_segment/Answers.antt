-- `cut::begins::begins_segment` meets its contract.
use mathlib.Core.Path.{sym, ◌∙◌}
use Rattle.cut.proofs.Places.{begins_refused, begins-beyond, begins-before, begins_break, begins-answered}
use Rattle.cut.proofs.Refusing.{read, not-read}
use Rattle.cut.proofs.begins.begins_segment.Goals as goal

pub returns-then-is_err : goal.returns-then-is_err
returns-then-is_err c =
    sym (begins_refused _ _ _ (λ e. not-read _ (sym c.is_err.ensures.value ∙ c.if-is_err.true) (c.admission.ensures ∙ e)))

pub returns-then-d-at : goal.returns-then-d-at
returns-then-d-at c = sym (begins-beyond _ _ _ (sym c.admission.ensures ∙ read _ (sym c.is_err.ensures.value ∙ c.if-is_err.false)) c.if-d-at.true)

pub returns-then-at-first : goal.returns-then-at-first
returns-then-at-first c =
    sym
    (begins-before _ _ _ _
    (sym c.admission.ensures ∙ read _ (sym c.is_err.ensures.value ∙ c.if-is_err.false))
    c.opening-first.ensures c.if-at-first.true)

pub returns-then-is_break : goal.returns-then-is_break
returns-then-is_break c =
    sym
    (begins_break _ _ _ _ _ (sym c.admission.ensures ∙ read _ (sym c.is_err.ensures.value ∙ c.if-is_err.false)) c.opening-first.ensures
    c.if-at-first.false c.if-d-at.false c.is_break.ensures c.if-is_break.true)

pub returns : goal.returns
returns c =
    begins-answered _ _ _ _ _ _ (sym c.admission.ensures ∙ read _ (sym c.is_err.ensures.value ∙ c.if-is_err.false)) c.opening-first.ensures
    c.if-at-first.false c.if-d-at.false c.is_break.ensures c.if-is_break.false c.follows_end.ensures
