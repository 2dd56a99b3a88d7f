-- `page::rows::row_at` meets its contract: each return by its test.
use Rattle.page.proofs.rows.Lookup.{row-past, row_here}
use Rattle.page.proofs.rows.row_at.Goals as goal

pub returns-then-element-c : goal.returns-then-element-c
returns-then-element-c c = row-past _ _ c.if-element-c.true

pub returns : goal.returns
returns c = row_here _ _ _ c.if-element-c.false c.row_word.ensures
