-- `Marks::flags` meets its contract: a byte is flagged if it is one of the two.
use Rattle.cut.specs.workers.Scanning.{is_mark}
use Rattle.bytewise.proofs.Bytewise.{flags-or}
use Rattle.cut.proofs.scan.MarksByteTest.flags.Goals as goal

pub returns : goal.returns
unfolding is_mark
returns c = rw (c.alike.ensures, c.alike-2.ensures) (flags-or _ _)
