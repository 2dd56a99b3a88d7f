-- `element::cursor::Cursor::new` meets its contract: each return by its test. Assumes nothing.
use borrow.Author.Tests.{lt-ltb, le-ltb}
use Rattle.element.specs.Cursors.{opening}
use Rattle.element.proofs.cursor.Cursor.new.Goals as goal

pub returns-then-start-limit_of : goal.returns-then-start-limit_of
unfolding opening
returns-then-start-limit_of c = rw (← c.limit_of.ensures, lt-ltb _ _ c.if-start-limit_of.true)

pub returns : goal.returns
unfolding opening
returns c = rw (← c.limit_of.ensures, le-ltb _ _ c.if-start-limit_of.false) c.spent.ensures
