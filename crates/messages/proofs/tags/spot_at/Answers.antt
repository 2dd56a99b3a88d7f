-- `messages::tags::spot_at` meets its contract.
use mathlib.Core.Path.{sym, ◌∙◌}
use Rattle.bytewise.specs.Bytes.{part}
use Rattle.cut.proofs.Ahead.{cut_ahead}
use Rattle.messages.proofs.walks.Tagging.{spot_of_lem, spot-none}
use borrow.Author.Rules.{rules}
use Rattle.messages.proofs.tags.spot_at.Goals as goal

pub returns-in_err-start : goal.returns-in_err-start
returns-in_err-start c = c.from_residual.ensures ∙ sym (spot-none _ _ _ (sym c.segment_at.ensures ∙ c.in_err-start.was))

pub slice_bounds-of-count : goal.slice_bounds-of-count
slice_bounds-of-count c =
    let q = cut_ahead _ _ _ _ _ _ (sym c.segment_at.ensures ∙ c.in_ok-start.was) in
    search rules

pub slice_bounds-of-start : goal.slice_bounds-of-start
slice_bounds-of-start c =
    let q = cut_ahead _ _ _ _ _ _ (sym c.segment_at.ensures ∙ c.in_ok-start.was) in
    search rules

pub slice_bounds-of-end : goal.slice_bounds-of-end
slice_bounds-of-end c =
    let q = cut_ahead _ _ _ _ _ _ (sym c.segment_at.ensures ∙ c.in_ok-start.was) in
    search rules

pub returns : goal.returns
unfolding part
returns c = sym (spot_of_lem _ _ _ _ _ _ _ (sym c.segment_at.ensures ∙ c.in_ok-start.was) c.of.ensures)
