-- The tables as numbers: what the code holds of them. No public promise cites these.
use Rattle.std.specs.Prelude.{ℕ, suc, ◌+◌, ◌*◌, ◌-◌, Bool, ◌&&◌, ◌||◌, List, [], ◌∷◌, ◌++◌, map, length, take, eqb}
use Rattle.guide.specs.Nodes.{Guide, node, paired}
use Rattle.guide.specs.workers.Placing.{lowest, first_node}
use Rattle.judge.specs.workers.Words.{packed}

-- the codes of all rows, one row's after the other's
unfoldable pub codes_of : Guide → List ℕ
codes_of [] = []
codes_of (x ∷ xs) = map packed x.selector.codes ++ codes_of xs

-- whether m is a child of p
abbrev pub child_of : Guide → ℕ → ℕ → Bool
child_of g p m = eqb (node g m).parent p

-- ... that may be missed: a required one, or one of a pair
abbrev pub due_of : Guide → ℕ → ℕ → Bool
due_of g p m = child_of g p m && ((node g m).must || paired g m)

-- the first of these, and the next of those that have n's parent; 0 where there is none
unfoldable pub first_due : Guide → ℕ → ℕ
first_due g p = first_node g (due_of g p)

unfoldable pub next_due : Guide → ℕ → ℕ
next_due g n = lowest (due_of g (node g n).parent) (suc n) (length g - suc n)

-- a row as two words of the code, field above field
unfoldable pub tag_word : Guide → ℕ → ℕ
tag_word g n = packed (node g n).tag + 268435456 * (node g n).counter

unfoldable pub term_word : Guide → ℕ → ℕ
term_word g n =
    (node g n).limit
    + 1048576
    * ((node g n).parent
    + 4096
    * (length (codes_of (take n g)) + 256 * (length (node g n).selector.codes + 16 * (next_due g n + 256 * first_due g n))))
