-- `price::rows::put_row` meets its contract: the eight fields replace the eight numbers there.
use mathlib.Core.Path.{◌∙◌}
use Rattle.price.proofs.filling.Puts.{row_put}
use Rattle.price.proofs.rows.put_row.Goals as goal

pub returns : goal.returns
returns c = row_put _ _ _ _ c.requires (c.copy_from_slice.ensures.after ∙ c.from.ensures)
