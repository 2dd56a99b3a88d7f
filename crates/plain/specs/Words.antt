-- Bytes as one number: a tag, a code or a component is compared with another in one step.
use Rattle.std.specs.Prelude.{ℕ, ◌+◌, ◌*◌, ◌<◌, cond, List, [], ◌∷◌, length, nat_le, slice_index}

-- every one of them is a byte
abbrev pub Bytes : List ℕ → Type 0
Bytes s = (i : ℕ) → slice_index s i < 256

-- the bytes as digits to the base 256, the first the lowest, with a 1 above the last, so that no two rows of different lengths are one number
unfoldable pub packed : List ℕ → ℕ
packed [] = 1
packed (x ∷ xs) = x + 256 * packed xs

-- a row of at most six bytes is its number, a longer one is 0: no code on the pages is longer
unfoldable pub word_of : List ℕ → ℕ
word_of s = cond (nat_le (length s) 6) (packed s) 0
