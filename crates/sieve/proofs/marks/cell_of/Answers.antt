-- `sieve::marks::cell_of` meets its contract.
use mathlib.Core.Path.{refl}
use Rattle.sieve.specs.workers.Marks.{cell_of}
use Rattle.sieve.proofs.marks.cell_of.Goals as goal

pub returns : goal.returns
unfolding cell_of
returns c = refl
