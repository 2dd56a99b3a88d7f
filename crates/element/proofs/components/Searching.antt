-- The search for a component by a cursor, one step further.
use Prim.Native.Nat.{ℕ, ◌+◌, ◌-◌, ◌≤◌, ◌<◌}
use mathlib.Core.Path.{◌≡◌, refl, ap, ◌∙◌}
use mathlib.Core.Bool.{true, false, ◌&&◌}
use mathlib.Core.List.{List, [], ◌∷◌, ◌++◌}
use native.Mathlib.Omega.{arith}
use borrow.Author.Tests.{ne_eqb}
use lib.ListN.{length}
use lib.Dec.{eqb}
use Rattle.cut.specs.declared.service.Syntax.{Syntax}
use Rattle.bytewise.proofs.Parts.{length_part}
use Rattle.element.specs.Components.{Component, in_element, in_elements, width, span_in, component_at}
use Rattle.element.specs.Cursors.{rest_from, standing, rest, opening}
use Rattle.element.specs.declared.cursor.Cursor.{Cursor}
use Rattle.element.proofs.cursor.Standing.{rest-standing}
use Rattle.element.proofs.cursor.Visits.{Visited}
use Rattle.element.proofs.cursor.Opening.{rest_new}

-- a step leaves fewer components
pub step_less
    : (y : Syntax) (d : List ℕ) (k : Cursor) (e c a b : ℕ) (next : Cursor) → Visited y d k e c a b next → length (rest y d next) < length (rest y d k)
step_less y d k e c a b next v =
    let l = ap length v.list in
    omega arith

module _ (a e c : ℕ) where
  -- the components of another element
  span-other : (e0 c0 p : ℕ) (bs : List (List ℕ)) (more : List Component) → (e0 ≡ e → ⊥) → span_in a e c (in_element e0 c0 p bs ++ more) ≡ span_in a e c more
  unfolding span_in in_element
  span-other e0 c0 p [] more n = refl
  span-other e0 c0 p (b ∷ bs) more n = rw (ne_eqb e0 e n) (span-other e0 (c0 + 1) (p + length b + 1) bs more n)

  -- the elements behind it
  span-later : (e0 p : ℕ) (es : List (List (List ℕ))) → e < e0 → span_in a e c (in_elements e0 p es) ≡ record { start = a; end = a }
  unfolding span_in in_elements
  span-later e0 p [] h = refl
  span-later e0 p (bs ∷ es) h =
      let n : e0 ≡ e → ⊥ = λ q. omega arith in
      span-other e0 0 p bs _ n ∙ span-later (e0 + 1) (p + width bs) es (omega arith)

module _ (y : Syntax) (d : List ℕ) (start element component : ℕ) where
  pub search_begins
      : (end : ℕ) (k : Cursor) → k ≡ opening d start end → span_in start element component (rest y d k) ≡ component_at y d start end element component
  unfolding component_at
  search_begins end k h = rw (rest_new y d start end k h)

  pub search_out : (k : Cursor) → rest y d k ≡ [] → span_in start element component (rest y d k) ≡ record { start = start; end = start }
  unfolding span_in
  search_out k h = rw h

  -- a cursor that stands in an element behind it
  pub search_later
      : (k : Cursor) → standing d k ≡ true → element < k.element → span_in start element component (rest y d k) ≡ record { start = start; end = start }
  unfolding rest_from
  search_later k s h =
      let n : k.element ≡ element → ⊥ = λ q. omega arith in
      rw (rest-standing y d k s)
      (span-other start element component k.element k.component k.place _ _ n ∙ span-later start element component (k.element + 1) _ _ (omega arith))

  module _ (k : Cursor) (e c a b : ℕ) (next : Cursor) (v : Visited y d k e c a b next) where
    pub search_found : eqb e element && eqb c component ≡ true → span_in start element component (rest y d k) ≡ record { start = a; end = b }
    unfolding span_in
    search_found t =
        let o = v.ordered in
        let w = v.within in
        let l : b ≤ length d = omega arith in
        let z : a + (b - a) ≡ b = omega arith in
        rw (v.list, span_in, t, length_part d a b l, z)

    pub search_next : eqb e element && eqb c component ≡ false → span_in start element component (rest y d k) ≡ span_in start element component (rest y d next)
    unfolding span_in
    search_next f = rw (v.list, span_in, f)
