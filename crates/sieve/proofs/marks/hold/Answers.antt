-- `sieve::marks::hold` meets its contract.
use Rattle.sieve.specs.workers.Marks.{with_mark}
use Rattle.sieve.proofs.Marking.{cell_inside}
use Rattle.sieve.proofs.marks.hold.Goals as goal

pub bounds-t-i : goal.bounds-t-i
bounds-t-i c = rw c.cell_of-i.ensures (cell_inside _)

pub bounds-t-i-2 : goal.bounds-t-i-2
bounds-t-i-2 c = rw c.cell_of-i.ensures (cell_inside _)

pub returns : goal.returns
unfolding with_mark
returns c = rw (← c.cell_of-i.ensures, ← c.mark_of.ensures, ← c.merged.ensures)
