-- `judge::term_words::terms` meets its contract: each edition has its own table. Assumes nothing.
use mathlib.Core.Path.{sym, ◌∙◌, ap}
use Rattle.guide.specs.Pricat.{pricat20d, pricat20c}
use Rattle.judge.specs.workers.Rows.{term_word}
use Rattle.guide.specs.declared.edition.Edition.{Edition}
use Rattle.guide.specs.declared.edition.Edition.TheVariants.{D, C}
use Rattle.guide.specs.Editions.{guide_of}
use Rattle.judge.proofs.rows.Tables.{row_in}
use Rattle.judge.proofs.term_words.terms.Goals as goal

pub terms_20d-requires : goal.terms_20d-requires
unfolding pricat20d
terms_20d-requires c = row_in _ D c.in-D.is _ c.requires

pub terms_20c-requires : goal.terms_20c-requires
unfolding pricat20c
terms_20c-requires c = row_in _ C c.in-C.is _ c.requires

pub returns-in-D : goal.returns-in-D
returns-in-D c = c.terms_20d.ensures ∙ ap (λ (e : Edition). term_word (guide_of e) c.args.n) (sym c.in-D.is)

pub returns-in-C : goal.returns-in-C
returns-in-C c = c.terms_20c.ensures ∙ ap (λ (e : Edition). term_word (guide_of e) c.args.n) (sym c.in-C.is)
