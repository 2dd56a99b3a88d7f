-- `sieve::marks::mark_of` meets its contract.
use mathlib.Core.Path.{refl}
use Rattle.sieve.specs.workers.Marks.{mark_of}
use Rattle.sieve.proofs.marks.mark_of.Goals as goal

pub returns : goal.returns
unfolding mark_of
returns c = refl
