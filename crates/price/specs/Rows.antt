-- Prices in a lent row. Document 01, 'What is handed out': "eight to a price, as many as fit whole .. The rest of the row is unchanged".
use Rattle.std.specs.Prelude.{◌*◌, ◌/◌, List, [], ◌∷◌, ◌++◌, length, take, drop, ℤ}
use Rattle.price.specs.declared.numbers.Numbers.{Numbers}

-- the numbers of a price in document 01's order
abbrev pub eight : Numbers → List ℤ
eight p =
    p.position ∷ p.article ∷ p.length ∷ p.amount ∷ p.decimals ∷ p.unit ∷ p.pri ∷ p.rng ∷ []

unfoldable pub all_numbers : List Numbers → List ℤ
all_numbers [] = []
all_numbers (p ∷ ps) = eight p ++ all_numbers ps

-- those of the prices that fit whole
unfoldable pub fitting : List ℤ → List Numbers → List Numbers
fitting row ps = take (length row / 8) ps

-- the row with these prices at its front
unfoldable pub filled_row : List Numbers → List ℤ → List ℤ
filled_row ps row = all_numbers (fitting row ps) ++ drop (length (fitting row ps) * 8) row
