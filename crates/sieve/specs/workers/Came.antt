-- What the workers of the table of articles promise each other: an article has a print, and a print has bits in two words of the table.
use Rattle.std.specs.Prelude.{ℕ, ◌/◌, ◌%◌, ◌^◌, Bool, ◌&&◌, List, get_or, set, eqb}
use Rattle.std.specs.Int.Bits.{bit_or}
use Rattle.sieve.specs.workers.Prints.{mixed_by}
use Rattle.sieve.specs.workers.Words.{article_print}

-- the word of a print, one of 256, and its bits there, three of 64
unfoldable pub word_of : ℕ → ℕ
word_of f = f / 16777216 % 256

unfoldable pub bits_of : ℕ → ℕ
bits_of f = bit_or (bit_or (2 ^ (f / 262144 % 64)) (2 ^ (f / 4096 % 64))) (2 ^ (f / 64 % 64))

-- whether a word that is v has the bits m
unfoldable pub has_bits : ℕ → ℕ → Bool
has_bits v m = eqb (bit_or v m) v

-- whether the word of f has its bits, and the table with them
unfoldable pub set_in : List ℕ → ℕ → Bool
set_in t f = has_bits (get_or t (word_of f) 0) (bits_of f)

unfoldable pub with_bits : List ℕ → ℕ → List ℕ
with_bits t f = set t (word_of f) (bit_or (get_or t (word_of f) 0) (bits_of f))

-- one more number made of a print: each print has bits in two words
abbrev pub other_of : ℕ → ℕ
other_of f = mixed_by f 0 0

-- whether the print f may have come, and the table after it
unfoldable pub came_in : List ℕ → ℕ → Bool
came_in t f = set_in t f && set_in t (other_of f)

unfoldable pub note_in : List ℕ → ℕ → List ℕ
note_in t f = with_bits (with_bits t f) (other_of f)

-- whether the article x may have come, by the table t
unfoldable pub may_have : List ℕ → List ℕ → Bool
may_have t x = came_in t (article_print x)
