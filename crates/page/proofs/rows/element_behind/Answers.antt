-- `page::rows::element_behind` meets its contract: each return by its test.
use Rattle.page.proofs.rows.Lookup.{element-past, element-here}
use Rattle.page.proofs.rows.element_behind.Goals as goal

pub returns-then-page-e : goal.returns-then-page-e
returns-then-page-e c = element-past _ _ c.if-page-e.true

pub returns : goal.returns
returns c = element-here _ _ _ c.if-page-e.false c.element_word.ensures
