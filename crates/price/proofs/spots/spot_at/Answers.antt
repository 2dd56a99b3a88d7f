-- `price::spots::spot_at` meets its contract.
use mathlib.Core.Path.{sym, ◌∙◌}
use Rattle.bytewise.specs.Bytes.{part}
use Rattle.cut.proofs.Ahead.{cut_ahead}
use Rattle.price.proofs.spots.Heads.{cut-lies, spot-none, spot-here}
use Rattle.price.proofs.spots.spot_at.Goals as goal

pub returns-in_err-cut : goal.returns-in_err-cut
returns-in_err-cut c = c.from_residual.ensures ∙ spot-none _ _ _ (sym c.segment_at.ensures ∙ c.in_err-cut.was)

pub slice_bounds-kind_of-count : goal.slice_bounds-kind_of-count
slice_bounds-kind_of-count c = (cut-lies _ _ _ _ (sym c.segment_at.ensures ∙ c.in_ok-cut.was)).ordered

pub slice_bounds-kind_of-start : goal.slice_bounds-kind_of-start
slice_bounds-kind_of-start c = (cut-lies _ _ _ _ (sym c.segment_at.ensures ∙ c.in_ok-cut.was)).ordered

pub slice_bounds-kind_of-end : goal.slice_bounds-kind_of-end
slice_bounds-kind_of-end c = (cut-lies _ _ _ _ (sym c.segment_at.ensures ∙ c.in_ok-cut.was)).inside

pub returns : goal.returns
unfolding part
returns c = spot-here _ _ _ _ _ _ _ (cut_ahead _ _ _ _ _ _ (sym c.segment_at.ensures ∙ c.in_ok-cut.was)) c.kind_of.ensures
