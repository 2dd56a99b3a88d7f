-- `page::cells::first_cell` meets its contract: each edition has its own table.
use mathlib.Core.Path.{sym, subst}
use Rattle.guide.specs.Nodes.{node}
use Rattle.guide.specs.declared.edition.Edition.{Edition}
use Rattle.guide.specs.Editions.{guide_of, pages_of}
use Rattle.page.specs.workers.Cells.{FirstWord}
use Rattle.page.proofs.cells.first_cell.Goals as goal

pub returns-in-D : goal.returns-in-D
returns-in-D c =
    subst (λ (e : Edition). let n = c.args.n in FirstWord (node (guide_of e) n).tag (pages_of e n) c.first_20d.result)
    (sym c.in-D.is)
    c.first_20d.ensures

pub returns-in-C : goal.returns-in-C
returns-in-C c =
    subst (λ (e : Edition). let n = c.args.n in FirstWord (node (guide_of e) n).tag (pages_of e n) c.first_20c.result)
    (sym c.in-C.is)
    c.first_20c.ensures
