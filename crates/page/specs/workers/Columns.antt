-- The pages laid out: their elements, rows and codes each joined to one list.
use Rattle.std.specs.Prelude.{ℕ, List, [], ◌∷◌, ◌++◌, take}
use Rattle.guide.specs.Page.{must, Row, used, unused, Composite, codes}
use Rattle.guide.specs.Composites.{S009, C273}
use Rattle.guide.specs.PageMakers.{UNH, IMD}
use Rattle.guide.specs.Pages20d.{pages20d}

-- lists joined to one
module _ {A : Type 0} where
  unfoldable pub joined : List (List A) → List A
  joined [] = []
  joined (l ∷ ls) = l ++ joined ls

-- a column: one value for each of a list
module _ {A B : Type 0} (f : A → B) where
  unfoldable pub column : List A → List B
  column [] = []
  column (x ∷ xs) = f x ∷ column xs

unfoldable pub codes_of : Row → List (List ℕ)
codes_of (used s f cs) = cs
codes_of unused = []

-- the elements of the pages of 2.0d, as far as its nodes go: the row behind them has the page of its node
abbrev pub elements20d : List Composite
elements20d = joined (take 27 pages20d)

-- the rows of these
unfoldable pub rows20d : List Row
rows20d = joined (column (λ (k : Composite). k.rows) elements20d)

-- the elements of all pages, the rows of all elements, the codes of all rows. Behind those of 2.0d stands what only 2.0c has: two pages, of each of
-- them one composite, of these one code
unfoldable pub all_elements : List Composite
all_elements = elements20d ++ (UNH "2.0c" ++ IMD must)

unfoldable pub all_rows : List Row
all_rows = rows20d ++ (S009 "2.0c" ++ C273 must)

unfoldable pub all_codes : List (List ℕ)
all_codes = joined (column codes_of rows20d) ++ codes ("2.0c" ∷ [])
