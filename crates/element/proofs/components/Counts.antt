-- A segment has at most one component more than it has bytes.
use Prim.Native.Nat.{ℕ, suc, ◌+◌, ◌≤◌}
use mathlib.Core.Path.{◌≡◌, refl}
use mathlib.Core.Bool.{Bool, false}
use mathlib.Core.List.{List, [], ◌∷◌}
use native.Mathlib.Omega.{arith}
use lib.ListN.{length, length-append}
use Rattle.cut.specs.declared.service.Syntax.{Syntax}
use Rattle.element.specs.Elements.{ending_of, releases, Split, listed, before, split_from, elements}
use Rattle.element.specs.declared.endings.Ending.{Ending}
use Rattle.element.specs.declared.endings.Ending.TheVariants as ends
use Rattle.std.specs.Prelude.{Option, Some, None}
use Rattle.element.specs.Components.{in_element, in_elements, width, components}

-- the components of all elements, counted
unfoldable total : List (List (List ℕ)) → ℕ
total [] = 0
total (bs ∷ es) = length bs + total es

before_total : (g : Option Ending) (x : ℕ) (s : Split) → total (listed (before g x s)) ≤ suc (total (listed s))
unfolding before total
before_total (Some ends.Segment) x s = omega arith
before_total (Some ends.Element) x s = omega arith
before_total (Some ends.Component) x s = omega arith
before_total None x s = omega arith

split_total : (y : Syntax) (r : Bool) (xs : List ℕ) → total (listed (split_from y r xs)) ≤ suc (length xs)
unfolding split_from total
split_total y r [] = omega arith
split_total y r (x ∷ xs) =
    let b = before_total (ending_of y r x) x (split_from y (releases y r x) xs) in
    let h = split_total y (releases y r x) xs in
    omega arith

elements_total : (y : Syntax) (s : List ℕ) → total (elements y s) ≤ suc (length s)
unfolding elements total
elements_total y [] = omega arith
elements_total y (x ∷ xs) = split_total y false (x ∷ xs)

in_element-length : (e c p : ℕ) (bs : List (List ℕ)) → length (in_element e c p bs) ≡ length bs
unfolding in_element
in_element-length e c p [] = refl
in_element-length e c p (b ∷ bs) = rw (in_element-length e (c + 1) (p + length b + 1) bs)

in_elements-length : (e p : ℕ) (es : List (List (List ℕ))) → length (in_elements e p es) ≡ total es
unfolding in_elements total
in_elements-length e p [] = refl
in_elements-length e p (bs ∷ es) =
    rw (length-append (in_element e 0 p bs) (in_elements (e + 1) (p + width bs) es), in_element-length e 0 p bs, in_elements-length (e + 1) (p + width bs) es)

pub components-count : (y : Syntax) (p : ℕ) (s : List ℕ) → length (components y p s) ≤ length s + 1
unfolding components
components-count y p s =
    let l = in_elements-length 0 p (elements y s) in
    let t = elements_total y s in
    omega arith
