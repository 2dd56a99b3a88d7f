-- The print of a position: a number made of all that is compared of it, so that positions that agree have the same.
use Rattle.std.specs.Prelude.{ℕ, ◌+◌, ◌*◌, ◌%◌, ◌≤◌, ◌<◌, ◌≡◌, Bool, true, false, cond, List, [], ◌∷◌, length, drop, eqb, Option, Some, None}
use Rattle.cut.specs.declared.service.Syntax.{Syntax}
use Rattle.bytewise.specs.Bytes.{part}
use Rattle.element.specs.Elements.{Split, elements, split_from}
use Rattle.element.specs.declared.endings.Ending.{Ending}
use Rattle.element.specs.declared.endings.Ending.TheVariants as ends
use Rattle.plain.specs.Plain.{plain}
use Rattle.element.specs.declared.components.Span.{Span}
use Rattle.sieve.specs.declared.prints.Printed.{Printed}

-- the print a, and then a byte x of the component that w names
unfoldable pub mixed_by : ℕ → ℕ → ℕ → ℕ
mixed_by a w x = (a * 2654435769 + w * 256 + x) % 4294967296

-- the same unless the component is left out or the byte is a release mark
unfoldable pub mixed_unless : Bool → Bool → ℕ → ℕ → ℕ → ℕ
mixed_unless q m a w x = cond q a (cond m a (mixed_by a w x))

-- component c of element e, in one byte
unfoldable pub named_by : ℕ → ℕ → ℕ
named_by e c = e % 16 * 16 + c % 16

-- the print a, and then the bytes of the component that w names: one without bytes changes nothing, as one that is missing
unfoldable pub print_bytes : ℕ → List ℕ → ℕ → ℕ
print_bytes w [] a = a
print_bytes w (x ∷ xs) a = print_bytes w xs (mixed_by a w x)

-- ... the components of the element e, of which the first has the number c, "releases removed"
unfoldable pub print_components : Syntax → ℕ → ℕ → List (List ℕ) → ℕ → ℕ
print_components y e c [] a = a
print_components y e c (b ∷ bs) a = print_components y e (c + 1) bs (print_bytes (named_by e c) (plain y false b) a)

-- ... the elements, of which the first has the number e, but for the element x
unfoldable pub print_elements : Syntax → ℕ → ℕ → List (List (List ℕ)) → ℕ → ℕ
print_elements y x e [] a = a
print_elements y x e (bs ∷ es) a = print_elements y x (e + 1) es (cond (eqb e x) a (print_components y e 0 bs a))

-- ... the bytes of a segment, but for its element x
unfoldable pub print_segment : Syntax → ℕ → List ℕ → ℕ → ℕ
print_segment y x s a = print_elements y x 0 (elements y s) a

-- ... a segment that may be missing
unfoldable pub print_in : Syntax → List (List ℕ) → ℕ → ℕ
print_in y [] a = a
print_in y (s ∷ ss) a = print_in y ss (print_segment y 0 s a)

-- the print of a position: "LIN (without its number), PIA and IMD"
unfoldable pub print_parts : Syntax → List ℕ → List (List ℕ) → List (List ℕ) → ℕ
print_parts y lin pia imd = mixed_by (print_in y imd (print_in y pia (print_segment y 1 lin 0))) 0 0

-- a segment that may be missing
abbrev pub part_in : Option Span → List ℕ → List (List ℕ)
part_in None d = []
part_in (Some s) d = part s.start s.end d ∷ []

-- the print a, and then what stands in the bytes xs, which go on in component c of element e; r says that the first of them is released
unfoldable pub print_split : Syntax → ℕ → ℕ → ℕ → Bool → Split → ℕ → ℕ
print_split y x e c r s a =
    print_elements y x (e + 1) s.elements
    (cond (eqb e x) a (print_components y e (c + 1) s.components (print_bytes (named_by e c) (plain y r s.bytes) a)))

unfoldable pub print_rest : Syntax → ℕ → ℕ → ℕ → Bool → List ℕ → ℕ → ℕ
print_rest y x e c r xs a = print_split y x e c r (split_from y r xs) a

-- whether the segment goes on behind it
abbrev pub passing : Ending → Bool
passing ends.Segment = false
passing ends.Element = true
passing ends.Component = true

-- the print a, and then what follows from the place i on where component c of element e is stopped so
unfoldable pub print_behind : Syntax → List ℕ → ℕ → ℕ → ℕ → Ending → ℕ → ℕ → ℕ
print_behind y d x e c ends.Segment i a = a
print_behind y d x e c ends.Element i a = print_rest y x (e + 1) 0 false (drop i d) a
print_behind y d x e c ends.Component i a = print_rest y x e (c + 1) false (drop i d) a

-- r is how the component c of element e that begins at `from` is stopped, and the print up to there
pub record PrintedTo (y : Syntax) (d : List ℕ) (x e c from a : ℕ) (r : Printed) : Type 0 where
  pub same : print_rest y x e c false (drop from d) a ≡ print_behind y d x e c r.stop r.place r.print
  pub onward : passing r.stop ≡ true → (from < r.place) × (r.place ≤ length d)
