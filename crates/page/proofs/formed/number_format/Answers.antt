-- `page::formed::number_format` meets its contract: each return by the kind.
use Rattle.page.proofs.formed.Faults.{format-digits, format-number}
use Rattle.page.proofs.formed.number_format.Goals as goal

pub returns-then-row-eq2 : goal.returns-then-row-eq2
returns-then-row-eq2 c = format-digits _ c.if-row-eq2.true

pub returns : goal.returns
returns c = format-number _ c.requires c.if-row-eq2.false
