-- `judge::pairs::number_of` meets its contract: one law for each return. Assumes nothing.
use mathlib.Core.Path.{sym, ◌∙◌}
use Rattle.guide.specs.Editions.{guide_of}
use Rattle.judge.proofs.pairs.Partners.{number_alone, number_least}
use Rattle.judge.proofs.pairs.number_of.Goals as goal

pub returns-in-Some : goal.returns-in-Some
returns-in-Some c =
    c.min.ensures ∙ number_least (guide_of c.args.edition) c.args.n _ (sym c.in-Some.is ∙ c.partner_of.ensures)

pub returns-in-None : goal.returns-in-None
returns-in-None c = number_alone (guide_of c.args.edition) c.args.n (sym c.in-None.is ∙ c.partner_of.ensures)
