-- `judge::code_words::code` meets its contract: each edition has its own table. Assumes nothing.
use mathlib.Core.Path.{sym, ◌∙◌, ap}
use lib.ListN.{get_or}
use Rattle.guide.specs.Pricat.{pricat20d, pricat20c}
use Rattle.judge.specs.workers.Rows.{codes_of}
use Rattle.guide.specs.declared.edition.Edition.{Edition}
use Rattle.guide.specs.declared.edition.Edition.TheVariants.{D, C}
use Rattle.guide.specs.Editions.{guide_of}
use Rattle.judge.proofs.rows.Tables.{code_in}
use Rattle.judge.proofs.code_words.code.Goals as goal

pub code_20d-requires : goal.code_20d-requires
unfolding pricat20d codes_of
code_20d-requires c = code_in _ D c.in-D.is _ c.requires

pub code_20c-requires : goal.code_20c-requires
unfolding pricat20c codes_of
code_20c-requires c = code_in _ C c.in-C.is _ c.requires

pub returns-in-D : goal.returns-in-D
returns-in-D c =
    c.code_20d.ensures ∙ ap (λ (e : Edition). get_or (codes_of (guide_of e)) c.args.j 0) (sym c.in-D.is)

pub returns-in-C : goal.returns-in-C
returns-in-C c =
    c.code_20c.ensures ∙ ap (λ (e : Edition). get_or (codes_of (guide_of e)) c.args.j 0) (sym c.in-C.is)
