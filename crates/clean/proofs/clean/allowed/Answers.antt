-- `clean::clean::allowed` meets its contract: the first byte that is not allowed stands in the part, or none does.
use Rattle.clean.proofs.Laws.{allowed-by}
use Rattle.clean.proofs.clean.allowed.Goals as goal

pub returns : goal.returns
returns c = allowed-by c.args.d.now c.args.a c.args.e _ _ c.limit_of.ensures c.first_that.ensures
