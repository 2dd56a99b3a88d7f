-- How segments lie in a delivery. Item 4: "Skipped bytes belong to no segment and no piece".
use Rattle.std.specs.Prelude.{ℕ, ◌≤◌, ◌≡◌, true, List, [], ◌∷◌, drop}
use Rattle.cut.specs.declared.service.Syntax.{Syntax}
use Rattle.bytewise.specs.Bytes.{part}
use Rattle.cut.specs.Segments.{Segment, end_of, breaks}

-- from place p on: line breaks, the bytes of the next segment, and so on; behind the last, line breaks alone
unfoldable pub Laid : Syntax → List ℕ → ℕ → List Segment → Type 0
Laid y d p [] = breaks y (drop p d) ≡ true
Laid y d p (s ∷ ss) =
    (p ≤ s.start) × (breaks y (part p s.start d) ≡ true) × (s.bytes ≡ part s.start (end_of s) d) × Laid y d (end_of s) ss
