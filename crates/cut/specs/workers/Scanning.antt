-- What the workers of the scan promise each other: a segment's end, seen from a place within it.
use Rattle.std.specs.Prelude.{ℕ, ◌+◌, ◌≤◌, ◌<◌, ◌≡◌, Bool, true, false, ◌||◌, Option, List, [], ◌∷◌, length, get_or, drop, eqb}
use Rattle.cut.specs.declared.service.Syntax.{Syntax}
use Rattle.cut.specs.declared.scan.Cut.{Cut}
use Rattle.cut.specs.Segments.{Segment, segments_from}
use Rattle.cut.specs.Calls.{some_cut}

-- the answer for a segment that began at `at`, from the segments of the bytes from i on
unfoldable pub open_cut : ℕ → ℕ → List Segment → Option Cut
open_cut at i [] = some_cut at i true
open_cut at i (s ∷ ss) = some_cut at (i + length s.bytes) s.piece

-- whatever segment is open, its answer seen from the place i is that seen from the place j, not before i; r: the byte at i is released
pub record Onward (y : Syntax) (d : List ℕ) (i : ℕ) (r : Bool) (j : ℕ) : Type 0 where
  pub onward : i ≤ j
  pub inside : j ≤ length d
  pub seen : (at : ℕ) → open_cut at i (segments_from y i r (drop i d)) ≡ open_cut at j (segments_from y j false (drop j d))

-- whether x is the terminator or the release character
unfoldable pub is_mark : Syntax → ℕ → Bool
is_mark y x = eqb x y.terminator || eqb x y.release

-- from i up to j no byte is the terminator or the release character; the one at j is
pub record Marked (y : Syntax) (d : List ℕ) (i j : ℕ) : Type 0 where
  pub passed : Onward y d i false j
  pub mark : j < length d → (get_or d j 0 ≡ y.terminator → ⊥) → get_or d j 0 ≡ y.release
