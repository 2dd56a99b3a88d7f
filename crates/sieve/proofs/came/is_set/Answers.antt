-- `sieve::came::is_set` meets its contract.
use Rattle.sieve.specs.workers.Came.{set_in, has_bits}
use Rattle.sieve.proofs.came.Noted.{word-inside, word-place}
use Rattle.sieve.proofs.came.is_set.Goals as goal

pub offset_bounds-t-i : goal.offset_bounds-t-i
offset_bounds-t-i c = record { fits = word-place _ _ c.word_of-i.ensures }

pub bounds-t-i : goal.bounds-t-i
bounds-t-i c = rw c.word_of-i.ensures (word-inside _)

pub returns : goal.returns
unfolding set_in has_bits
returns c = rw (← c.word_of-i.ensures, ← c.bits_of.ensures)
