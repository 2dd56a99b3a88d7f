-- `cut::scan::segment_at` meets its contract.
use mathlib.Core.Path.{sym, ◌∙◌, ap}
use Rattle.cut.specs.Calls.{cut_at}
use Rattle.cut.proofs.Ahead.{segment-past}
use Rattle.cut.proofs.scan.segment_at.Goals as goal

pub returns : goal.returns
returns c = c.cut_from.ensures ∙ ap (cut_at _ _) c.past_breaks.ensures ∙ sym (segment-past _ _ _)
