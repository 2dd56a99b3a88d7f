-- The places of two components, gathered from left to right. No public promise cites these.
use Rattle.std.specs.Prelude.{ℕ, cond, ◌&&◌, eqb}
use Rattle.element.specs.declared.components.Span.{Span}
use Rattle.page.specs.declared.places.Places.{Places}

-- s, if component c of element e is the first of element t, else z
unfoldable pub first_of : ℕ → ℕ → ℕ → Span → Span → Span
first_of t e c s z = cond (eqb e t && eqb c 0) s z

-- the places once component c of element e is known, which stands at s
unfoldable pub places_on : ℕ → ℕ → Span → Places → Places
places_on e c s p = record { first = first_of 1 e c s p.first; third = first_of 3 e c s p.third }
