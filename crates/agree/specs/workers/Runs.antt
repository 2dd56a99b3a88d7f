-- What the workers promise each other that search run by run.
use Rattle.std.specs.Prelude.{ℕ, ◌+◌, ◌≤◌, ◌<◌, max, ◌≡◌, Bool, true, false, not, ◌&&◌, ◌||◌, List, [], ◌∷◌, ◌++◌, length, drop}
use Rattle.cut.specs.declared.service.Syntax.{Syntax}
use Rattle.agree.specs.Agreement.{Heading}
use Rattle.agree.specs.Positions.{positions_from, positions_of, agrees_any, first_after, first_agreeing}
use Rattle.cut.specs.Segments.{segments_at}
use Rattle.agree.specs.workers.Parts.{headings_in}
use Rattle.sieve.specs.workers.Marks.{marked_in}
use Rattle.sieve.specs.workers.Prints.{print_parts}
use Rattle.agree.specs.declared.runs.Run.{Run}

-- none of the positions hs agrees with one of the earlier ones es or with one before it
unfoldable pub fresh : Syntax → List Heading → List Heading → Bool
fresh y es [] = true
fresh y es (h ∷ hs) = not (agrees_any y h es) && fresh y (es ++ (h ∷ [])) hs

-- one of the positions es agrees with one of the positions hs
unfoldable pub meets : Syntax → List Heading → List Heading → Bool
meets y [] hs = false
meets y (e ∷ es) hs = agrees_any y e hs || meets y es hs

-- the print of a position
abbrev pub print_of : Syntax → Heading → ℕ
print_of y h = print_parts y h.lin h.pia h.imd

-- the prints of all these positions are marked
unfoldable pub all_marked : Syntax → List ℕ → List Heading → Bool
all_marked y t [] = true
all_marked y t (h ∷ hs) = marked_in t (print_of y h) && all_marked y t hs

-- the run r of segments from the place at on: its positions do not agree with each other, and all are marked in the table t
pub record Running (y : Syntax) (d : List ℕ) (at : ℕ) (t : List ℕ) (r : Run) : Type 0 where
  pub passed : drop r.count (segments_at y d at) ≡ segments_at y d r.end
  pub few : at + r.count ≤ r.end
  pub fits : r.end ≤ max at (length d)
  pub apart : fresh y [] (headings_in r.count (segments_at y d at)) ≡ true
  pub marked : all_marked y t (headings_in r.count (segments_at y d at)) ≡ true

-- the search has passed the first n segments, which end at the place `at`, and has not found it yet
pub record Searched (y : Syntax) (d : List ℕ) (start at n : ℕ) : Type 0 where
  pub found :
      first_after y (headings_in n (segments_at y d start)) (positions_from (n + 1) (segments_at y d at))
      ≡ first_agreeing y (positions_of (segments_at y d start))
  pub passed : drop n (segments_at y d start) ≡ segments_at y d at
  pub few : n ≤ at

-- a run of segments from the place a on, behind the first n, is passed with it
abbrev pub PassedTo : Syntax → List ℕ → ℕ → ℕ → ℕ → Run → Type 0
PassedTo y d start a n r = Searched y d start r.end (n + r.count) × (0 < r.count) × (a + r.count ≤ r.end) × (r.end ≤ max a (length d))
