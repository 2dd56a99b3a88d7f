-- `page::words::node_word` meets its contract: each edition has its own table.
use mathlib.Core.Path.{sym, subst}
use Rattle.guide.specs.declared.edition.Edition.{Edition}
use Rattle.guide.specs.Editions.{pages_of}
use Rattle.page.specs.workers.Words.{NodeWord}
use Rattle.page.proofs.words.node_word.Goals as goal

pub returns-in-D : goal.returns-in-D
returns-in-D c =
    subst (λ (e : Edition). NodeWord c.node_20d.result (pages_of e c.args.n)) (sym c.in-D.is)
    c.node_20d.ensures

pub returns-in-C : goal.returns-in-C
returns-in-C c =
    subst (λ (e : Edition). NodeWord c.node_20c.result (pages_of e c.args.n)) (sym c.in-C.is)
    c.node_20c.ensures
