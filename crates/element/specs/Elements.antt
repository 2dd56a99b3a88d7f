-- Elements and components of a segment. Document 01, 'Cutting', for any service characters.
use Rattle.std.specs.Prelude.{ℕ, min, Bool, true, false, cond, ◌&&◌, List, [], ◌∷◌, length, get_or, leb, eqb, Option, Some, None, unwrap_or}
use Rattle.cut.specs.declared.service.Syntax.{Syntax}
use Rattle.cut.specs.Segments.{frees}
use Rattle.element.specs.declared.endings.Ending.{Ending}
use Rattle.element.specs.declared.endings.Ending.TheVariants as ends

-- "`'` ends a segment, `+` an element, `:` a component": what the byte x ends, if anything; r says that it is released. Where one byte is
-- several service characters, it is the terminator first, then the element separator, then the component separator, and the release mark last
unfoldable pub ending_of : Syntax → Bool → ℕ → Option Ending
ending_of y true x = None
ending_of y false x =
    cond (eqb x y.terminator) (Some ends.Segment)
    (cond (eqb x y.element) (Some ends.Element)
    (cond (eqb x y.component) (Some ends.Component) None))

-- whether the byte is one of its component's own
unfoldable pub stays : Option Ending → Bool
stays (Some g) = false
stays None = true

-- what ends where a component ends, at the place n of a part up to e: at the part's end the segment. A byte that ends nothing is taken
-- for a separator of components
unfoldable pub ending_at : Syntax → List ℕ → ℕ → ℕ → Ending
ending_at y d n e = cond (leb (min e (length d)) n) ends.Segment (unwrap_or (ending_of y false (get_or d n 0)) ends.Component)

-- "`?` makes the next byte literal": whether the byte x releases the next one. One that ends something releases nothing
unfoldable pub releases : Syntax → Bool → ℕ → Bool
releases y r x = stays (ending_of y r x) && frees y r x

-- what stands from a place on: the bytes up to the end of the component, the components after it in its element, the elements after that
pub record Split : Type 0 where
  pub bytes : List ℕ
  pub components : List (List ℕ)
  pub elements : List (List (List ℕ))

-- the same as a list of elements, each a list of components
abbrev pub listed : Split → List (List (List ℕ))
listed s = (s.bytes ∷ s.components) ∷ s.elements

-- one empty component, and nothing after it
abbrev pub empty : Split
empty = record { bytes = []; components = []; elements = [] }

-- the byte x before what follows it
unfoldable pub before : Option Ending → ℕ → Split → Split
before (Some ends.Segment) x s = empty
before (Some ends.Element) x s = record { bytes = []; components = []; elements = listed s }
before (Some ends.Component) x s = record { bytes = []; components = s.bytes ∷ s.components; elements = s.elements }
before None x s = record { bytes = x ∷ s.bytes; components = s.components; elements = s.elements }

-- what stands in the bytes xs, up to the first terminator that is not released; r says that the first of them is released
unfoldable pub split_from : Syntax → Bool → List ℕ → Split
split_from y r [] = empty
split_from y r (x ∷ xs) = before (ending_of y r x) x (split_from y (releases y r x) xs)

-- the elements of a segment, the tag first, each with its components; where no byte stands, there is none
unfoldable pub elements : Syntax → List ℕ → List (List (List ℕ))
elements y [] = []
elements y (x ∷ xs) = listed (split_from y false (x ∷ xs))

-- the raw bytes of component c of element e of a segment, a missing one empty. Both count from 0 and element 0 is the tag: document 01's
-- "first component after the tag", its element 1, component 1, is component 0 of element 1
unfoldable pub component : Syntax → List ℕ → ℕ → ℕ → List ℕ
component y s e c = get_or (get_or (elements y s) e []) c []
