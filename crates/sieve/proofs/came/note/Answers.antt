-- `sieve::came::note` meets its contract.
use Rattle.sieve.specs.workers.Came.{note_in}
use Rattle.sieve.proofs.came.note.Goals as goal

pub returns : goal.returns
unfolding note_in
returns c =
    rw (
      ← c.set.ensures,
      ← c.mixed.ensures,
    )
    c.set-2.ensures
