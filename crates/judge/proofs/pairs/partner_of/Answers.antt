-- `judge::pairs::partner_of` meets its contract: each edition has its own pairs. Assumes nothing.
use mathlib.Core.Path.{sym, ◌∙◌, ap}
use Rattle.guide.specs.Nodes.{node}
use Rattle.guide.specs.declared.edition.Edition.{Edition}
use Rattle.guide.specs.Editions.{guide_of}
use Rattle.guide.specs.Options.{unless_0}
use Rattle.judge.proofs.pairs.partner_of.Goals as goal

pub returns-in-D : goal.returns-in-D
returns-in-D c =
    c.partner_20d.ensures ∙ ap (λ (e : Edition). unless_0 (node (guide_of e) c.args.n).partner) (sym c.in-D.is)

pub returns-in-C : goal.returns-in-C
returns-in-C c =
    c.partner_20c.ensures ∙ ap (λ (e : Edition). unless_0 (node (guide_of e) c.args.n).partner) (sym c.in-C.is)
