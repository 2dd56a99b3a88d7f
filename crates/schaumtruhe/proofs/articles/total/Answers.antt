-- `schaumtruhe::articles::total` meets its contract.
use Rattle.schaumtruhe.proofs.pricing.Filling.{is_total}
use Rattle.schaumtruhe.proofs.articles.total.Goals as goal

pub returns : goal.returns
returns c = is_total _ _ _ _ _ c.fill.ensures.value
