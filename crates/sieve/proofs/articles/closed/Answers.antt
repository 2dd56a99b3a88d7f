-- `sieve::articles::closed` meets its contract.
use borrow.Author.Tests.{eq-eqb, ne_eqb}
use Rattle.sieve.specs.workers.Words.{closed_by}
use Rattle.sieve.proofs.articles.closed.Goals as goal

pub returns-then-g-eq1 : goal.returns-then-g-eq1
unfolding closed_by
returns-then-g-eq1 c = rw (eq-eqb _ _ c.if-g-eq1.true)

pub returns : goal.returns
unfolding closed_by
returns c = rw (ne_eqb _ _ c.if-g-eq1.false) c.mixed_word.ensures
