-- `sieve::prints::print_optional` meets its contract.
use Rattle.sieve.specs.workers.Prints.{print_in}
use Rattle.sieve.proofs.prints.print_optional.Goals as goal

pub returns-in-Some : goal.returns-in-Some
unfolding print_in
returns-in-Some c = rw c.in-Some.is (rw c.part.ensures at c.print_segment.ensures)

pub returns-in-None : goal.returns-in-None
unfolding print_in
returns-in-None c = rw c.in-None.is
