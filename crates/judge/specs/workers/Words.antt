-- Tags and codes as numbers: what the table holds of them, so that two are compared in one step. No public promise cites these.
use Rattle.std.specs.Prelude.{ℕ, ◌/◌, ◌%◌, Bool, true, false, ◌&&◌, ◌||◌, List, [], ◌∷◌, eqb, leb}
unfoldable pub use Rattle.plain.specs.Words.{packed, word_of}
pub use Rattle.plain.specs.Words.{Bytes}

-- whether the number k is one of these
unfoldable pub holds : ℕ → List ℕ → Bool
holds k [] = false
holds k (x ∷ xs) = eqb k x || holds k xs

-- the same, where none is any: `chosen`
unfoldable pub picks : List ℕ → ℕ → Bool
picks [] k = true
picks (x ∷ xs) k = holds k (x ∷ xs)

-- whether each of the three lowest bytes of a number is at least a capital letter's
unfoldable pub letters : ℕ → Bool
letters t = leb 65 (t % 256) && (leb 65 (t / 256 % 256) && leb 65 (t / 65536 % 256))
