-- `cut::admit::admission` meets its contract.
use mathlib.Core.Path.{sym, ◌∙◌}
use Rattle.cut.proofs.cutting.Admitting.{start_fits, admission_long, admission_unusable, admission_plain, admission_right, admission_wrong}
use borrow.Author.Rules.{rules}
use Rattle.cut.proofs.admit.admission.Goals as goal

pub returns-then-d-gt-LIMIT : goal.returns-then-d-gt-LIMIT
returns-then-d-gt-LIMIT c = sym (admission_long _ _ c.if-d-gt-LIMIT.true)

pub returns-then-not-may_be_used : goal.returns-then-not-may_be_used
returns-then-not-may_be_used c = sym (admission_unusable _ _ c.if-d-gt-LIMIT.false (sym c.may_be_used.ensures ∙ c.if-not-may_be_used.true))

pub slice_bounds-rest-count : goal.slice_bounds-rest-count
slice_bounds-rest-count c =
    let f = start_fits _ _ _ c.past_breaks-k.ensures in
    search rules

pub slice_bounds-rest-start : goal.slice_bounds-rest-start
slice_bounds-rest-start c =
    let f = start_fits _ _ _ c.past_breaks-k.ensures in
    search rules

pub returns-then-not-begins_with : goal.returns-then-not-begins_with
returns-then-not-begins_with c =
    sym
    (admission_plain _ _ _ c.past_breaks-k.ensures c.if-d-gt-LIMIT.false
    (sym c.may_be_used.ensures ∙ c.if-not-may_be_used.false)
    (sym c.begins_with.ensures ∙ c.if-not-begins_with.true))

pub returns-then-begins_with : goal.returns-then-begins_with
returns-then-begins_with c =
    sym
    (admission_right _ _ _ c.past_breaks-k.ensures
    c.if-d-gt-LIMIT.false
    (sym c.may_be_used.ensures ∙ c.if-not-may_be_used.false)
    (sym c.begins_with.ensures ∙ c.if-not-begins_with.false)
    (sym c.begins_with-2.ensures ∙ c.if-begins_with.true))

pub returns-else-begins_with : goal.returns-else-begins_with
returns-else-begins_with c =
    sym
    (admission_wrong _ _ _ c.past_breaks-k.ensures
    c.if-d-gt-LIMIT.false
    (sym c.may_be_used.ensures ∙ c.if-not-may_be_used.false)
    (sym c.begins_with.ensures ∙ c.if-not-begins_with.false)
    (sym c.begins_with-2.ensures ∙ c.if-begins_with.false))
