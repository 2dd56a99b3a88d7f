-- `cut::used::characters` meets its contract.
use mathlib.Core.Path.{sym, ◌∙◌}
use borrow.Author.Rules.{rules}
use Rattle.cut.proofs.cutting.Admitting.{start_fits, characters_una, characters_handed}
use Rattle.cut.proofs.used.characters.Goals as goal

pub slice_bounds-una-count : goal.slice_bounds-una-count
slice_bounds-una-count c =
    let f = start_fits _ _ _ c.past_breaks-k.ensures in
    search rules

pub slice_bounds-una-start : goal.slice_bounds-una-start
slice_bounds-una-start c =
    let f = start_fits _ _ _ c.past_breaks-k.ensures in
    search rules

pub returns-then-begins_with : goal.returns-then-begins_with
returns-then-begins_with c =
    c.named_by.ensures
    ∙ sym (characters_una _ _ _ _ c.usual_as.ensures c.past_breaks-k.ensures (sym c.begins_with.ensures ∙ c.if-begins_with.true))

pub returns : goal.returns
returns c =
    sym (characters_handed _ _ _ _ c.usual_as.ensures c.past_breaks-k.ensures (sym c.begins_with.ensures ∙ c.if-begins_with.false))
