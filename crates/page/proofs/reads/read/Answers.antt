-- `page::reads::read` meets its contract: what the quick pass tells, and else what is read through.
use Rattle.page.proofs.reads.Faults.{read_quick}
use Rattle.page.proofs.reads.read.Goals as goal

pub faultless_from-requires : goal.faultless_from-requires
faultless_from-requires c = c.first_cell.ensures.lettered

pub returns-in-Some : goal.returns-in-Some
returns-in-Some c = read_quick _ _ _ _ _ _ (c.in-Some.ensures _ c.first_cell.ensures.state)
