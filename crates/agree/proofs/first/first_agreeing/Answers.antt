-- `agree::first::first_agreeing` meets its contract.
use Rattle.agree.proofs.earlier.Search.{answer-part}
use Rattle.agree.proofs.first.first_agreeing.Goals as goal

pub returns : goal.returns
returns c = answer-part _ _ _ _ _ _ c.until.ensures.syntax c.until.ensures.bytes _ c.first_from.ensures
