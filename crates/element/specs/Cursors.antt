-- A cursor goes through the components of a segment once, from left to right.
use Rattle.std.specs.Prelude.{ℕ, ◌+◌, min, ◌≡◌, Bool, true, false, cond, ◌&&◌, List, [], ◌∷◌, ◌++◌, length, leb, ltb, Option, Some, None}
use Rattle.bytewise.specs.Bytes.{part}
use Rattle.cut.specs.declared.service.Syntax.{Syntax}
use Rattle.element.specs.Elements.{Split, split_from, component}
use Rattle.element.specs.Components.{Component, end_of, in_element, in_elements, width}
use Rattle.element.specs.declared.cursor.Cursor.{Cursor}
use Rattle.element.specs.declared.cursor.Visit.{Visit}

-- the components of what stands from the place p on, where component c of element e begins
unfoldable pub rest_from : ℕ → ℕ → ℕ → Split → List Component
rest_from e c p s = in_element e c p (s.bytes ∷ s.components) ++ in_elements (e + 1) (p + width (s.bytes ∷ s.components)) s.elements

-- whether the cursor's place is not past the end and its numbers are not past its place. In a walk they never are, but a cursor is a value
-- that anyone can make: one that does not stand gives nothing. An end past the delivery counts as the delivery's end
unfoldable pub standing : List ℕ → Cursor → Bool
standing d k = leb k.place (min k.end (length d)) && (leb k.element k.place && leb k.component k.place)

-- the components that are left to a cursor
unfoldable pub rest : Syntax → List ℕ → Cursor → List Component
rest y d k = cond (standing d k) (rest_from k.element k.component k.place (split_from y false (part k.place k.end d))) []

-- a cursor with nothing left: its place is past its end
abbrev pub done : Cursor
done = record { element = 0; component = 0; place = 1; end = 0 }

-- the cursor before the first of these components of a segment
unfoldable pub cursor_at : ℕ → List Component → Cursor
cursor_at end [] = done
cursor_at end (k ∷ ks) = record { element = k.element; component = k.component; place = k.start; end = end }

-- the cursor at the beginning of a segment; where no byte stands, nothing is left to it
unfoldable pub opening : List ℕ → ℕ → ℕ → Cursor
opening d start end = cond (ltb start (min end (length d))) (record { element = 0; component = 0; place = start; end = end }) done

-- component c of element e, from the place a up to the place b, and the cursor after it
abbrev pub visit_at : ℕ → ℕ → ℕ → ℕ → Cursor → Visit
visit_at e c a b next = record { element = e; component = c; start = a; end = b; next = next }

-- the first of these components, and the cursor after it
unfoldable pub visit_of : ℕ → List Component → Option Visit
visit_of end [] = None
visit_of end (k ∷ ks) = Some (visit_at k.element k.component k.start (end_of k) (cursor_at end ks))

-- a step of a cursor
unfoldable pub step_of : Syntax → List ℕ → Cursor → Option Visit
step_of y d k = visit_of k.end (rest y d k)

-- a cursor stands, and its component ends at the place stop, in a segment that ends at the place limit
pub record Stopped (y : Syntax) (d : List ℕ) (k : Cursor) (stop limit : ℕ) : Type 0 where
  pub stands : standing d k ≡ true
  pub within : limit ≡ min k.end (length d)
  pub stops : stop ≡ k.place + length (component y (part k.place limit d) 0 0)
