-- `price::filling::fill` meets its contract.
use mathlib.Core.Path.{◌∙◌}
use Rattle.price.proofs.moves.Moved.{row-own, filled-own}
use Rattle.price.proofs.filling.fill.Goals as goal

pub returns-clause-value : goal.returns-clause-value
returns-clause-value c =
    c.fill_message.ensures.value ∙ filled-own _ _ _ _ _ _ c.min-end.ensures c.min.ensures _ _

pub returns-clause-row_after : goal.returns-clause-row_after
returns-clause-row_after c =
    c.fill_message.ensures.row_after ∙ row-own _ _ _ _ _ _ c.min-end.ensures c.min.ensures _ _
