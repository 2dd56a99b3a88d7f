-- `sieve::marks::mark` meets its contract.
use Rattle.sieve.specs.workers.Marks.{mark_in}
use Rattle.sieve.proofs.marks.mark.Goals as goal

pub returns : goal.returns
unfolding mark_in
returns c =
    rw (
      ← c.hold.ensures,
      ← c.mixed-g.ensures,
      ← c.hold-2.ensures,
      ← c.mixed.ensures,
    )
    c.hold-3.ensures
