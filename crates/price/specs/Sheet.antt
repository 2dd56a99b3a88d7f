-- The prices of a message, read off its tree in message order: each position's in turn. It cites the tree's positions only.
use Rattle.std.specs.Prelude.{ℕ, ◌+◌, List, [], ◌∷◌, ◌++◌, map}
use Rattle.cut.specs.Segments.{Segment}
use Rattle.guide.specs.Nodes.{Guide}
use Rattle.guide.specs.Tree.{Kids}
use Rattle.guide.specs.Sheet.{Price, Position, positions_in}
use Rattle.price.specs.Numbers.{Listed}

-- the prices of a position with the running number n
abbrev pub prices_at : ℕ → Position → List Listed
prices_at n p = map (λ (x : Price). record { position = n; lin = p.lin; price = x }) p.prices

-- the prices of the positions ps, of which the first has the running number n
unfoldable pub prices_of_all : ℕ → List Position → List Listed
prices_of_all n [] = []
prices_of_all n (p ∷ ps) = prices_at n p ++ prices_of_all (n + 1) ps

-- the prices of a message; positions are numbered from 1
unfoldable pub prices_in_tree : Guide → Kids Segment → List Listed
prices_in_tree g t = prices_of_all 1 (positions_in g t)
