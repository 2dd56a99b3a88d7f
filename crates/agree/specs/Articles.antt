-- The articles of a message's positions: where none comes twice, no two positions agree, and rule 23 needs no second walk.
use Rattle.std.specs.Prelude.{ℕ, Bool, true, false, cond, not, ◌&&◌, ◌||◌, List, [], ◌∷◌}
use Rattle.cut.specs.declared.service.Syntax.{Syntax}
use Rattle.bytewise.specs.Bytes.{bytes_of, begins}
use Rattle.cut.specs.Segments.{Segment}
use Rattle.plain.specs.Plain.{same}
use Rattle.guide.specs.Content.{text}

-- the articles of the LINs among the segments ss: element 3, component 0, "releases removed"
unfoldable pub articles_in : Syntax → List Segment → List (List ℕ)
articles_in y [] = []
articles_in y (s ∷ ss) = cond (begins (bytes_of "LIN") s.bytes) (text y s.bytes 3 0 ∷ articles_in y ss) (articles_in y ss)

-- the article x is one of xs
unfoldable pub among : List ℕ → List (List ℕ) → Bool
among x [] = false
among x (z ∷ zs) = same x z || among x zs

-- none of the articles comes twice
unfoldable pub distinct : List (List ℕ) → Bool
distinct [] = true
distinct (x ∷ xs) = not (among x xs) && distinct xs
