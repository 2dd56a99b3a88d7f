-- `element::endings::ending_at` meets its contract: by the test of the place.
use borrow.Author.Tests.{le-leb, lt-leb}
use Rattle.element.specs.Elements.{ending_at}
use Rattle.element.proofs.endings.ending_at.Goals as goal

pub returns-then-limit_of-at : goal.returns-then-limit_of-at
unfolding ending_at
returns-then-limit_of-at c = rw (← c.limit_of.ensures, le-leb _ _ c.if-limit_of-at.true)

pub returns : goal.returns
unfolding ending_at
returns c = rw (← c.limit_of.ensures, lt-leb _ _ c.if-limit_of-at.false, ← c.ending_of.ensures) c.unwrap_or.ensures
