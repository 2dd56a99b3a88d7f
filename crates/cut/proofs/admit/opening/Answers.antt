-- `cut::admit::opening` meets its contract.
use mathlib.Core.Path.{sym, ◌∙◌}
use Rattle.cut.proofs.cutting.Admitting.{start_fits, opening_una, opening-plain}
use borrow.Author.Rules.{rules}
use Rattle.cut.proofs.admit.opening.Goals as goal

pub slice_bounds-una-count : goal.slice_bounds-una-count
slice_bounds-una-count c =
    let f = start_fits _ _ _ c.past_breaks-k.ensures in
    search rules

pub slice_bounds-una-start : goal.slice_bounds-una-start
slice_bounds-una-start c =
    let f = start_fits _ _ _ c.past_breaks-k.ensures in
    search rules

pub overflow_add-result : goal.overflow_add-result
overflow_add-result c =
    let f = start_fits _ _ _ c.past_breaks-k.ensures in
    search rules

pub returns-then-begins_with : goal.returns-then-begins_with
returns-then-begins_with c = sym (opening_una _ _ _ c.past_breaks-k.ensures (sym c.begins_with.ensures ∙ c.if-begins_with.true))

pub returns-else-begins_with : goal.returns-else-begins_with
returns-else-begins_with c = sym (opening-plain _ _ _ c.past_breaks-k.ensures (sym c.begins_with.ensures ∙ c.if-begins_with.false))
