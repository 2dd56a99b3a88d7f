-- `page::quick::steps` meets its contract.
use Rattle.page.proofs.cells.Fields.{steps_empty, steps_filled}
use Rattle.page.proofs.quick.steps.Goals as goal

pub returns-then-n-eq0 : goal.returns-then-n-eq0
returns-then-n-eq0 c = steps_empty _ _ c.if-n-eq0.true

pub returns : goal.returns
returns c = steps_filled _ _ c.if-n-eq0.false
