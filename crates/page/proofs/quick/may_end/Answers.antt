-- `page::quick::may_end` meets its contract.
use Rattle.page.proofs.cells.Fields.{end_empty, end_filled}
use Rattle.page.proofs.quick.may_end.Goals as goal

pub returns-then-n-eq0 : goal.returns-then-n-eq0
returns-then-n-eq0 c = end_empty _ _ c.if-n-eq0.true

pub returns : goal.returns
returns c = end_filled _ _ c.if-n-eq0.false
