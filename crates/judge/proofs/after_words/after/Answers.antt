-- `judge::after_words::after` meets its contract: each edition has its own table. Assumes nothing.
use mathlib.Core.Path.{sym, ◌∙◌, ap}
use Rattle.judge.specs.workers.Sets.{after_word}
use Rattle.guide.specs.declared.edition.Edition.{Edition}
use Rattle.guide.specs.Editions.{guide_of}
use Rattle.judge.proofs.after_words.after.Goals as goal

pub returns-in-D : goal.returns-in-D
returns-in-D c = c.after_20d.ensures ∙ ap (λ (e : Edition). after_word (guide_of e) c.args.n) (sym c.in-D.is)

pub returns-in-C : goal.returns-in-C
returns-in-C c = c.after_20c.ensures ∙ ap (λ (e : Edition). after_word (guide_of e) c.args.n) (sym c.in-C.is)
