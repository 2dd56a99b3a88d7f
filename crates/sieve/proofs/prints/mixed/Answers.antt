-- `sieve::prints::mixed` meets its contract.
use mathlib.Core.Path.{refl}
use Rattle.sieve.specs.workers.Prints.{mixed_by}
use Rattle.sieve.proofs.prints.mixed.Goals as goal

pub returns : goal.returns
unfolding mixed_by
returns c = refl
