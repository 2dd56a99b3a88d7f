-- `sieve::came::set` meets its contract.
use Rattle.sieve.specs.workers.Came.{with_bits}
use Rattle.sieve.proofs.came.Noted.{word-inside, word-place}
use Rattle.sieve.proofs.came.set.Goals as goal

pub offset_bounds-t-i : goal.offset_bounds-t-i
offset_bounds-t-i c = record { fits = word-place _ _ c.word_of-i.ensures }

pub bounds-t-i : goal.bounds-t-i
bounds-t-i c = rw c.word_of-i.ensures (word-inside _)

pub offset_bounds-t-i-2 : goal.offset_bounds-t-i-2
offset_bounds-t-i-2 c = record { fits = word-place _ _ c.word_of-i.ensures }

pub bounds-t-i-2 : goal.bounds-t-i-2
bounds-t-i-2 c = rw c.word_of-i.ensures (word-inside _)

pub returns : goal.returns
unfolding with_bits
returns c = rw (← c.word_of-i.ensures, ← c.bits_of.ensures)
