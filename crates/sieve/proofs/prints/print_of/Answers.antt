-- `sieve::prints::print_of` meets its contract.
use Rattle.sieve.specs.workers.Prints.{print_parts}
use Rattle.sieve.proofs.prints.print_of.Goals as goal

pub returns : goal.returns
unfolding print_parts
returns c = rw (c.mixed.ensures, c.print_optional.ensures, c.print_optional-b.ensures, c.print_segment-a.ensures, c.part.ensures)
