-- A segment's end, seen from a place within it.
use Rattle.std.specs.Prelude.{ℕ, ◌≡◌, false, List}
use Rattle.cut.specs.declared.service.Syntax.{Syntax}
use Rattle.cut.specs.Calls.{some_cut, cut_at}

-- the segment from the place b on is the rest of the one from the place a on: where that ends, this one does
abbrev pub Carries : Syntax → List ℕ → ℕ → ℕ → Type 0
Carries y d a b = (e : ℕ) → cut_at y d b ≡ some_cut b e false → cut_at y d a ≡ some_cut a e false
