-- The segments from a place on, of those that a delivery has.
use Rattle.std.specs.Prelude.{ℕ, List, [], ◌∷◌, leb}
use Rattle.cut.specs.Segments.{Segment, keep_if}

-- those that begin at q or later
unfoldable pub since : ℕ → List Segment → List Segment
since q [] = []
since q (s ∷ ss) = keep_if (leb q s.start) s (since q ss)
