-- `sieve::prints::named` meets its contract.
use mathlib.Core.Path.{refl}
use Rattle.sieve.specs.workers.Prints.{named_by}
use Rattle.sieve.proofs.prints.named.Goals as goal

pub returns : goal.returns
unfolding named_by
returns c = refl
