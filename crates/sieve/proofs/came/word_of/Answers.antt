-- `sieve::came::word_of` meets its contract.
use mathlib.Core.Path.{refl}
use Rattle.sieve.specs.workers.Came.{word_of}
use Rattle.sieve.proofs.came.word_of.Goals as goal

pub returns : goal.returns
unfolding word_of
returns c = refl
