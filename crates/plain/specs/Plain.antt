-- The bytes that stand in a part of a delivery. Document 01, 'Elements' and 'Cutting', for any service characters.
use Rattle.std.specs.Prelude.{ℕ, ◌+◌, min, Bool, true, false, cond, ◌&&◌, List, [], ◌∷◌, ◌++◌, length, take, drop, ◌==◌, nat_lt, slice_index}
use Rattle.cut.specs.declared.service.Syntax.{Syntax}
use Rattle.cut.specs.Segments.{frees}
use Rattle.bytewise.specs.Bytes.{part}
use Rattle.plain.specs.declared.literals.Literals.{Literals}

-- the byte x before the bytes xs, unless it is a release mark
unfoldable pub unless_mark : Bool → ℕ → List ℕ → List ℕ
unless_mark true x xs = xs
unless_mark false x xs = x ∷ xs

-- "after release marks are removed": the bytes xs without them; r says that the first of them is released
unfoldable pub plain : Syntax → Bool → List ℕ → List ℕ
plain y r [] = []
plain y r (x ∷ xs) = unless_mark (frees y r x) x (plain y (frees y r x) xs)

-- the part of d from a up to e, "releases removed"
unfoldable pub decoded : Syntax → ℕ → ℕ → List ℕ → List ℕ
decoded y a e d = plain y false (part a e d)

-- what is left to read of a part, "releases removed"
unfoldable pub literals_left : Literals → List ℕ
literals_left s = plain s.syntax false s.rest.now

-- where the first byte stands that the part of d from i up to e has, "releases removed": at i, or behind it if a release mark stands there
unfoldable pub literal_of : Syntax → List ℕ → ℕ → ℕ → ℕ
literal_of y d i e = cond (nat_lt i (min e (length d)) && frees y false (slice_index d i)) (i + 1) i

-- "All characters are compared": whether two rows of bytes are the same
unfoldable pub same : List ℕ → List ℕ → Bool
same [] [] = true
same [] (y ∷ ys) = false
same (x ∷ xs) [] = false
same (x ∷ xs) (y ∷ ys) = x == y && same xs ys

-- how many of the bytes s fit into the row
abbrev pub fitting : List ℕ → List ℕ → ℕ
fitting s row = min (length s) (length row)

-- the row with the bytes s at its front, as many as fit, and the rest of the row unchanged
unfoldable pub copied : List ℕ → List ℕ → List ℕ
copied s row = take (length row) s ++ drop (length s) row
