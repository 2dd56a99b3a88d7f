-- `page::marks::is_text` meets its contract: each return by the bounds.
use native.Mathlib.Omega.{arith}
use borrow.Author.Tests.{le-leb, lt-leb}
use Rattle.clean.specs.Clean.{between}
use Rattle.page.proofs.marks.is_text.Goals as goal

pub returns-in-32-to-126 : goal.returns-in-32-to-126
unfolding between
returns-in-32-to-126 c = simp (le-leb 32 c.args.x (omega arith), le-leb c.args.x 126 (omega arith))

pub returns-in_default : goal.returns-in_default
unfolding between
returns-in_default c = rw (lt-leb 32 c.args.x (omega arith))

pub returns-in_default-2 : goal.returns-in_default-2
unfolding between
returns-in_default-2 c = simp (le-leb 32 c.args.x (omega arith), lt-leb c.args.x 126 (omega arith))
