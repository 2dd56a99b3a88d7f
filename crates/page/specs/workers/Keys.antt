-- Codes as numbers. No public promise cites these.
use Rattle.std.specs.Prelude.{ℕ, Bool, false, ◌||◌, List, [], ◌∷◌, eqb}
use Rattle.plain.specs.Words.{packed}

-- whether the number is that of one of the codes
unfoldable pub key_among : ℕ → List (List ℕ) → Bool
key_among k [] = false
key_among k (c ∷ cs) = eqb k (packed c) || key_among k cs
