-- What demand 3 speaks of: a front before a tail, and places moved by the front's length.
use Rattle.std.specs.Prelude.{ℕ, ◌+◌, ◌≡◌, Bool, true, cond, not, ◌&&◌, List, [], ◌∷◌, ◌++◌}
use Rattle.cut.specs.declared.service.Syntax.{Syntax}
use Rattle.cut.specs.Segments.{Segment, frees}
use Rattle.bytewise.specs.Bytes.{bytes_of, begins}
use Rattle.cut.specs.Admission.{admission_of}

-- the same segment k places later
abbrev pub moved : ℕ → Segment → Segment
moved k s = record { start = k + s.start; bytes = s.bytes; piece = s.piece }

-- none of them is a piece: what they stand in "ends where a segment ends"
unfoldable pub whole : List Segment → Bool
whole [] = true
whole (s ∷ ss) = not s.piece && whole ss

-- whether the byte after xs is released; r: whether the first of xs is
unfoldable pub after : Syntax → Bool → List ℕ → Bool
after y r [] = r
after y r (x ∷ xs) = after y (frees y r x) xs

-- a piece and the first of what follows as one segment
unfoldable pub glued : Segment → List Segment → List Segment
glued s [] = s ∷ []
glued s (t ∷ ts) = record { start = s.start; bytes = s.bytes ++ t.bytes; piece = t.piece } ∷ ts

-- a front's segments and then those of what follows: a piece and the first of these are one segment
unfoldable pub meet : List Segment → List Segment → List Segment
meet [] ts = ts
meet (s ∷ ss) ts = cond s.piece (glued s ts) (s ∷ meet ss ts)

abbrev pub UNH : List ℕ
UNH = bytes_of "UNH"

-- "two admitted deliveries, one the tail of the other, the tail starting with the bytes UNH"
pub record Tail (y : Syntax) (front tail : List ℕ) : Type 0 where
  pub admitted : admission_of y (front ++ tail) ≡ 0
  pub begins_UNH : begins UNH tail ≡ true
