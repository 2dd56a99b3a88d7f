-- `sieve::articles::mixed_word` meets its contract.
use mathlib.Core.Path.{refl}
use native.Mathlib.Omega.{arith}
use Rattle.sieve.specs.workers.Words.{word_mixed}
use Rattle.sieve.proofs.articles.Gathering.{mix_fits}
use Rattle.sieve.proofs.articles.mixed_word.Goals as goal

pub overflow_add-u : goal.overflow_add-u
overflow_add-u c = record { fits = mix_fits _ _ (omega arith) }

pub returns : goal.returns
unfolding word_mixed
returns c = refl
