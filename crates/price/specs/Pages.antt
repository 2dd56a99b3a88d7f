-- What stands on the pages of prices: computed from a table and its pages.
use Rattle.std.specs.Prelude.{ℕ, zero, suc, ◌≡◌, Bool, List, [], ◌∷◌, ◌++◌, length}
use Rattle.guide.specs.Nodes.{Guide}
use Rattle.guide.specs.Page.{Page}
use Rattle.guide.specs.Composites.{basis}
use Rattle.guide.specs.PageMakers.{LIN, PRI}
use Rattle.guide.specs.Sheet.{only_if}
use Rattle.price.specs.Table.{lin_node, pri_node}

-- the pages of the nodes below k that the test holds of, the last first
unfoldable pub pages_below : (ℕ → Page) → (ℕ → Bool) → ℕ → List Page
pages_below pages test zero = []
pages_below pages test (suc k) = only_if (test k) (pages k) ++ pages_below pages test k

-- the LIN and the PRI of the second kind of group, and those of the first
pub record PricePages (g : Guide) (pages : ℕ → Page) : Type 0 where
  pub lins : pages_below pages (lin_node g) (length g) ≡ LIN ("Z09" ∷ []) ∷ LIN ("Z01" ∷ "Z09" ∷ []) ∷ []
  pub pris : pages_below pages (pri_node g) (length g) ≡ PRI [] ∷ PRI basis ∷ []
