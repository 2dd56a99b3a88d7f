-- `judge::pairs::reason_over` meets its contract: one law for each return. Assumes nothing.
use mathlib.Core.Path.{sym, ◌∙◌}
use native.Mathlib.Omega.{arith}
use Rattle.guide.specs.Editions.{guide_of}
use Rattle.judge.proofs.pairs.Partners.{partner-counted, over_alone, over_second, over-third}
use Rattle.judge.proofs.pairs.reason_over.Goals as goal

pub offset_bounds-counts-other : goal.offset_bounds-counts-other
offset_bounds-counts-other c = omega (arith, partner-counted c.args.edition c.args.n _ (sym c.in-Some.is ∙ c.partner_of.ensures))

pub bounds-counts-other : goal.bounds-counts-other
bounds-counts-other c = partner-counted c.args.edition c.args.n _ (sym c.in-Some.is ∙ c.partner_of.ensures)

pub returns-in-Some : goal.returns-in-Some
returns-in-Some c =
    over_second (guide_of c.args.edition) c.args.n _ (sym c.in-Some.is ∙ c.partner_of.ensures) c.args.counts.now c.if-counts-other-eq0.true

pub returns-in-Some-2 : goal.returns-in-Some-2
returns-in-Some-2 c =
    over-third (guide_of c.args.edition) c.args.n _ (sym c.in-Some.is ∙ c.partner_of.ensures) c.args.counts.now c.if-counts-other-eq0.false

pub returns-in-None : goal.returns-in-None
returns-in-None c = over_alone (guide_of c.args.edition) c.args.n (sym c.in-None.is ∙ c.partner_of.ensures) c.args.counts.now
