-- `judge::entry_words::entry` meets its contract: each edition has its own table. Assumes nothing.
use mathlib.Core.Path.{sym, ◌∙◌, ap}
use Rattle.guide.specs.Pricat.{pricat20d, pricat20c}
use Rattle.judge.specs.workers.Sets.{entry_word}
use Rattle.guide.specs.declared.edition.Edition.{Edition}
use Rattle.guide.specs.declared.edition.Edition.TheVariants.{D, C}
use Rattle.guide.specs.Editions.{guide_of}
use Rattle.judge.proofs.rows.Tables.{row_in}
use Rattle.judge.proofs.entry_words.entry.Goals as goal

pub entry_20d-requires : goal.entry_20d-requires
unfolding pricat20d
entry_20d-requires c = row_in _ D c.in-D.is _ c.requires

pub entry_20c-requires : goal.entry_20c-requires
unfolding pricat20c
entry_20c-requires c = row_in _ C c.in-C.is _ c.requires

pub returns-in-D : goal.returns-in-D
returns-in-D c = c.entry_20d.ensures ∙ ap (λ (e : Edition). entry_word (guide_of e) c.args.n) (sym c.in-D.is)

pub returns-in-C : goal.returns-in-C
returns-in-C c = c.entry_20c.ensures ∙ ap (λ (e : Edition). entry_word (guide_of e) c.args.n) (sym c.in-C.is)
