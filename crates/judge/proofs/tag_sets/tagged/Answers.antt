-- `judge::tag_sets::tagged` meets its contract: each edition has its own table. Assumes nothing.
use mathlib.Core.Path.{sym, ◌∙◌, ap}
use Rattle.judge.specs.workers.Sets.{tagged_of}
use Rattle.guide.specs.declared.edition.Edition.{Edition}
use Rattle.guide.specs.Editions.{guide_of}
use Rattle.judge.proofs.tag_sets.tagged.Goals as goal

pub returns-in-D : goal.returns-in-D
returns-in-D c = c.tagged_20d.ensures ∙ ap (λ (e : Edition). tagged_of (guide_of e) c.args.tag) (sym c.in-D.is)

pub returns-in-C : goal.returns-in-C
returns-in-C c =
    c.tagged_20c.ensures ∙ ap (λ (e : Edition). tagged_of (guide_of e) c.args.tag) (sym c.in-C.is)
