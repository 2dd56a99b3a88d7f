-- `judge::sets::coded` meets its contract: the set is computed from the table. Assumes nothing.
use Rattle.guide.specs.Pricat.{pricat20d, pricat20c}
use Rattle.judge.specs.workers.Sets.{bits, nodes_that, coded_of}
use Rattle.judge.proofs.sets.coded.Goals as goal

pub returns-in-D : goal.returns-in-D
unfolding pricat20d bits nodes_that coded_of
returns-in-D c = rw c.in-D.is

pub returns-in-C : goal.returns-in-C
unfolding pricat20c bits nodes_that coded_of
returns-in-C c = rw c.in-C.is
