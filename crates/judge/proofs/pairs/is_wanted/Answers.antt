-- `judge::pairs::is_wanted` meets its contract: one law for each return. Assumes nothing.
use mathlib.Core.Path.{sym, ◌∙◌}
use native.Mathlib.Omega.{arith}
use Rattle.guide.specs.Editions.{guide_of}
use Rattle.judge.proofs.pairs.Partners.{partner-counted, wanted_alone, wanted_pair}
use Rattle.judge.proofs.pairs.is_wanted.Goals as goal

pub offset_bounds-counts-other : goal.offset_bounds-counts-other
offset_bounds-counts-other c = omega (arith, partner-counted c.args.edition c.args.m _ (sym c.in-Some.is ∙ c.partner_of.ensures))

pub bounds-counts-other : goal.bounds-counts-other
bounds-counts-other c = partner-counted c.args.edition c.args.m _ (sym c.in-Some.is ∙ c.partner_of.ensures)

pub returns-in-Some : goal.returns-in-Some
returns-in-Some c = wanted_pair (guide_of c.args.edition) c.args.m _ (sym c.in-Some.is ∙ c.partner_of.ensures) c.args.counts.now

pub returns-in-None : goal.returns-in-None
returns-in-None c = wanted_alone (guide_of c.args.edition) c.args.m (sym c.in-None.is ∙ c.partner_of.ensures) c.args.counts.now
