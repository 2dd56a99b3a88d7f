-- `messages::outer::outer_at` meets its contract.
use mathlib.Core.Path.{sym, ◌∙◌, ap}
use Rattle.bytewise.specs.Bytes.{part}
use Rattle.cut.proofs.Ahead.{cut_ahead}
use Rattle.messages.specs.workers.Walks.{is_unh}
use Rattle.messages.proofs.walks.Tagging.{tag-past}
use Rattle.messages.proofs.Passing.{outer_unh, outer_none, outer_some}
use borrow.Author.Rules.{rules}
use Rattle.messages.proofs.outer.outer_at.Goals as goal

pub returns-then-begins_unh : goal.returns-then-begins_unh
returns-then-begins_unh c =
    let place = c.past_breaks.ensures in
    outer_unh _ (ap is_unh (sym (tag-past _ _ _ _ place)) ∙ c.begins_unh.ensures c.if-begins_unh.true)

pub returns-in_err-start : goal.returns-in_err-start
returns-in_err-start c = c.from_residual.ensures ∙ outer_none _ _ _ (sym c.segment_at.ensures ∙ c.in_err-start.was)

pub slice_bounds-of-count : goal.slice_bounds-of-count
slice_bounds-of-count c =
    let q = cut_ahead _ _ _ _ _ _ (sym c.segment_at.ensures ∙ c.in_ok-start.was) in
    search rules

pub slice_bounds-of-start : goal.slice_bounds-of-start
slice_bounds-of-start c =
    let q = cut_ahead _ _ _ _ _ _ (sym c.segment_at.ensures ∙ c.in_ok-start.was) in
    search rules

pub slice_bounds-of-end : goal.slice_bounds-of-end
slice_bounds-of-end c =
    let q = cut_ahead _ _ _ _ _ _ (sym c.segment_at.ensures ∙ c.in_ok-start.was) in
    search rules

pub returns : goal.returns
unfolding part
returns c =
    outer_some _ _ _ _ _ _ (sym c.segment_at.ensures ∙ c.in_ok-start.was) _ c.of.ensures _
    c.by_tag.ensures
