-- `judge::tag_words::tag_word` meets its contract: each edition has its own table. Assumes nothing.
use mathlib.Core.Path.{sym, ◌∙◌, ap}
use Rattle.guide.specs.Pricat.{pricat20d, pricat20c}
use Rattle.judge.specs.workers.Rows.{tag_word}
use Rattle.guide.specs.declared.edition.Edition.{Edition}
use Rattle.guide.specs.declared.edition.Edition.TheVariants.{D, C}
use Rattle.guide.specs.Editions.{guide_of}
use Rattle.judge.proofs.rows.Tables.{row_in}
use Rattle.judge.proofs.tag_words.tag_word.Goals as goal

pub tag_word_20d-requires : goal.tag_word_20d-requires
unfolding pricat20d
tag_word_20d-requires c = row_in _ D c.in-D.is _ c.requires

pub tag_word_20c-requires : goal.tag_word_20c-requires
unfolding pricat20c
tag_word_20c-requires c = row_in _ C c.in-C.is _ c.requires

pub returns-in-D : goal.returns-in-D
returns-in-D c = c.tag_word_20d.ensures ∙ ap (λ (e : Edition). tag_word (guide_of e) c.args.n) (sym c.in-D.is)

pub returns-in-C : goal.returns-in-C
returns-in-C c = c.tag_word_20c.ensures ∙ ap (λ (e : Edition). tag_word (guide_of e) c.args.n) (sym c.in-C.is)
