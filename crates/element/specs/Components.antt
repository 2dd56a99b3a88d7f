-- The components of a segment from left to right, with their numbers and places.
use Rattle.std.specs.Prelude.{ℕ, ◌+◌, false, cond, ◌&&◌, List, [], ◌∷◌, ◌++◌, length, eqb}
use Rattle.bytewise.specs.Bytes.{part}
use Rattle.cut.specs.declared.service.Syntax.{Syntax}
use Rattle.element.specs.Elements.{elements, component}
use Rattle.plain.specs.Plain.{plain}
use Rattle.element.specs.declared.components.Span.{Span}
use Rattle.element.specs.declared.scan.Extent.{Extent}

-- its element's number, its own number in the element, both from 0, the place of its first byte, and its raw bytes
pub record Component : Type 0 where
  pub element : ℕ
  pub component : ℕ
  pub start : ℕ
  pub bytes : List ℕ

-- the place after its last byte
abbrev pub end_of : Component → ℕ
end_of k = k.start + length k.bytes

-- the components bs of element e, of which the first has the number c and the place p; a separator of one byte stands after each
unfoldable pub in_element : ℕ → ℕ → ℕ → List (List ℕ) → List Component
in_element e c p [] = []
in_element e c p (b ∷ bs) = record { element = e; component = c; start = p; bytes = b } ∷ in_element e (c + 1) (p + length b + 1) bs

-- the bytes of an element, the separators counted
unfoldable pub width : List (List ℕ) → ℕ
width [] = 0
width (b ∷ bs) = length b + 1 + width bs

-- the components of the elements es, of which the first has the number e and the place p
unfoldable pub in_elements : ℕ → ℕ → List (List (List ℕ)) → List Component
in_elements e p [] = []
in_elements e p (bs ∷ es) = in_element e 0 p bs ++ in_elements (e + 1) (p + width bs) es

-- all components of a segment that starts at the place p
unfoldable pub components : Syntax → ℕ → List ℕ → List Component
components y p s = in_elements 0 p (elements y s)

-- where the component with the numbers e and c stands among these; a missing one is the empty part at the place a
unfoldable pub span_in : ℕ → ℕ → ℕ → List Component → Span
span_in a e c [] = record { start = a; end = a }
span_in a e c (k ∷ ks) = cond (eqb k.element e && eqb k.component c) (record { start = k.start; end = end_of k }) (span_in a e c ks)

-- where component c of element e of the segment stands that runs from start to end in the delivery; a missing one is the empty part at its start
unfoldable pub component_at : Syntax → List ℕ → ℕ → ℕ → ℕ → ℕ → Span
component_at y d start end e c = span_in start e c (components y start (part start end d))

-- the component that begins at the place a of a part up to e: the place after its last byte, and how many bytes it has, "releases removed"
unfoldable pub extent_of : Syntax → List ℕ → ℕ → ℕ → Extent
extent_of y d a e =
    let b = component y (part a e d) 0 0 in
    record { end = a + length b; length = length (plain y false b) }
