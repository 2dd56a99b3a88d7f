-- `plain::words::released_word` meets its contract. The loop's invariant: the word that is begun so goes on with what the iterator has.
use Rattle.std.proofs.Common.{◌≡◌, ℕ}
use Rattle.plain.specs.Plain.{decoded, literals_left}
use Rattle.plain.specs.Words.{word_of}
use Rattle.plain.proofs.Summing.{Begun, word_from}
use Rattle.plain.proofs.words.released_word.Given as goal

abbrev pub invariant-loop-x : goal.invariant-loop-x
invariant-loop-x l =
    (n : ℕ) × Begun n l.sum l.scale × (word_from n l.sum l.scale (literals_left l.x-iterator) ≡ word_of (decoded l.fn.d.syntax l.a l.e l.d.bytes.now))
