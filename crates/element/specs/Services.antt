-- The byte at which a component ends, or from which on its bytes may be released.
use Rattle.std.specs.Prelude.{ℕ, ◌≤◌, ◌<◌, ◌≡◌, Bool, true, false, not, ◌&&◌, ◌||◌, List, get_or, eqb}
use Rattle.cut.specs.Base.{edifact}
use Rattle.cut.specs.declared.service.Syntax.{Syntax}
use Rattle.clean.specs.Clean.{allowed_byte}
use Rattle.element.specs.Elements.{ending_of, stays}

-- whether the byte x ends something where it is not released, or is the release character
unfoldable pub is_service : Syntax → ℕ → Bool
is_service y x = not (stays (ending_of y false x)) || eqb x y.release

-- no byte from the place `from` up to the place i is such
pub record Passed (y : Syntax) (d : List ℕ) (from i : ℕ) : Type 0 where
  pub onward : from ≤ i
  pub none : (k : ℕ) → from ≤ k → k < i → is_service y (get_or d k 0) ≡ false

-- r is the place of the first such byte from `from` on, if one stands before limit
pub record Service (y : Syntax) (d : List ℕ) (from limit r : ℕ) : Type 0 where
  pub passed : Passed y d from r
  pub here : r < limit → is_service y (get_or d r 0) ≡ true

-- whether the four service characters that these are made of are the usual ones
unfoldable pub usual_services : Syntax → Bool
usual_services y =
    eqb y.terminator edifact.terminator
    && (eqb y.element edifact.element && (eqb y.component edifact.component && eqb y.release edifact.release))

-- whether the byte x is such with the usual service characters, is `;` or `>`, which are tested together with `:` and `?`, or is not allowed
unfoldable pub is_mark : ℕ → Bool
is_mark x = (is_service edifact x || (eqb x 59 || eqb x 62)) || not (allowed_byte x)
