-- `page::quick::keep` meets its contract: each return by its test.
use Rattle.page.proofs.cells.Fields.{keep-first, keep-third}
use Rattle.page.proofs.quick.keep.Goals as goal

pub returns-then-kept-eq1 : goal.returns-then-kept-eq1
returns-then-kept-eq1 c = keep-first _ _ _ c.if-kept-eq1.true

pub returns : goal.returns
returns c = keep-third _ _ _ c.if-kept-eq0.false c.if-kept-eq1.false
