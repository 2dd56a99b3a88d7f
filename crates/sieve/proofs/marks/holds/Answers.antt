-- `sieve::marks::holds` meets its contract.
use borrow.Author.Tests.{eq-eqb, ne_eqb}
use Rattle.sieve.specs.workers.Marks.{held_by, held_in}
use Rattle.sieve.proofs.Marking.{cell_inside}
use Rattle.sieve.proofs.marks.holds.Goals as goal

pub bounds-t-i : goal.bounds-t-i
bounds-t-i c = rw c.cell_of-i.ensures (cell_inside _)

pub returns-then-v : goal.returns-then-v
unfolding held_in held_by
returns-then-v c = rw (← c.cell_of-i.ensures, eq-eqb _ _ c.if-v.true)

pub returns : goal.returns
unfolding held_in held_by
returns c = rw (← c.cell_of-i.ensures, ← c.mark_of.ensures, ne_eqb _ _ c.if-v.false)
