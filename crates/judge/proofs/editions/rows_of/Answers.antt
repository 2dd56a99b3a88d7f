-- `judge::editions::rows_of` meets its contract: the table's rows are counted by computation. Assumes nothing.
use Rattle.guide.specs.Pricat.{pricat20d, pricat20c}
use Rattle.judge.proofs.editions.rows_of.Goals as goal

pub returns-in-D : goal.returns-in-D
unfolding pricat20d
returns-in-D c = rw c.in-D.is

pub returns-in-C : goal.returns-in-C
unfolding pricat20c
returns-in-C c = rw c.in-C.is
