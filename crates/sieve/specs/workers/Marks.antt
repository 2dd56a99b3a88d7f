-- What the workers of the table of prints promise each other: where a print is not marked, nothing with that print came.
use Rattle.std.specs.Prelude.{ℕ, ◌+◌, ◌/◌, ◌%◌, Bool, cond, ◌&&◌, ◌||◌, List, get_or, set, eqb}
use Rattle.sieve.specs.workers.Prints.{mixed_by}

-- the cell of a print, and its mark there
unfoldable pub cell_of : ℕ → ℕ
cell_of f = f / 524288 % 8192

unfoldable pub mark_of : ℕ → ℕ
mark_of f = f / 2048 % 254 + 1

-- a cell that holds v, after the mark m: 0 says that no print came, 255 that several came
unfoldable pub merged_by : ℕ → ℕ → ℕ
merged_by v m = cond (eqb v 0) m (cond (eqb v m) m 255)

-- whether a cell that holds v may have had the mark m
unfoldable pub held_by : ℕ → ℕ → Bool
held_by v m = eqb v 255 || eqb v m

-- whether the cell of f may have had its mark, and the table after it
unfoldable pub held_in : List ℕ → ℕ → Bool
held_in t f = held_by (get_or t (cell_of f) 0) (mark_of f)

unfoldable pub with_mark : List ℕ → ℕ → List ℕ
with_mark t f = set t (cell_of f) (merged_by (get_or t (cell_of f) 0) (mark_of f))

-- two more numbers made of a print: each print is marked in three cells
abbrev pub second_of : ℕ → ℕ
second_of f = mixed_by f 0 0

abbrev pub third_of : ℕ → ℕ
third_of f = mixed_by (second_of f) 0 0

-- whether the print f may have come, and the table after it
unfoldable pub marked_in : List ℕ → ℕ → Bool
marked_in t f = held_in t f && (held_in t (second_of f) && held_in t (third_of f))

unfoldable pub mark_in : List ℕ → ℕ → List ℕ
mark_in t f = with_mark (with_mark (with_mark t f) (second_of f)) (third_of f)
