-- Columns: a table as the code holds it, one number for each node.
use Rattle.std.specs.Prelude.{ℕ, zero, suc, List, [], ◌∷◌}

-- what a function of the node's number is, for the k numbers from i on
abbrev pub values : (ℕ → ℕ) → ℕ → ℕ → List ℕ
values f i zero = []
values f i (suc k) = f i ∷ values f (suc i) k
