-- A component that ends where its part ends has none behind it in its element that holds a byte: so PRI has no unit where its price is the last.
use Prim.Native.Nat.{ℕ, zero, suc, ◌+◌, ◌≤◌, ◌<◌, min}
use lib.IntN.{pos}
use mathlib.Core.Path.{◌≡◌, refl}
use mathlib.Core.List.{List, [], ◌∷◌, ◌++◌}
use native.Mathlib.Omega.{arith}
use borrow.Author.Tests.{eq-eqb, ne_eqb}
use lib.ListN.{length, get_or}
use Rattle.bytewise.specs.Bytes.{part}
use Rattle.cut.specs.declared.service.Syntax.{Syntax}
use Rattle.element.specs.Components.{Component, in_element, in_elements, width, components, span_in, component_at}
use Rattle.element.specs.Elements.{elements, component}
use Rattle.plain.specs.Plain.{plain, same}
use Rattle.element.specs.declared.components.Span.{Span}
use Rattle.element.proofs.ComponentFace.{Each, more, Placed, components_placed}
use Rattle.price.specs.Numbers.{unit_rank}

no_byte : (b : List ℕ) → length b ≤ 0 → b ≡ []
no_byte [] h = refl
no_byte (x ∷ xs) h = absurd (omega arith)

-- the components of another element are passed
span-other
    : (a e e0 c c0 p : ℕ) (bs : List (List ℕ)) (ks : List Component) → (e0 ≡ e → ⊥) → span_in a e c (in_element e0 c0 p bs ++ ks) ≡ span_in a e c ks
unfolding span_in in_element
span-other a e e0 c c0 p [] ks n = refl
span-other a e e0 c c0 p (b ∷ bs) ks n = rw (ne_eqb e0 e n) (span-other a e e0 c (c0 + 1) (p + length b + 1) bs ks n)

-- all these components end by the place z
module _ (d : List ℕ) (z : ℕ) where
  placed_rest : (e c p : ℕ) (bs : List (List ℕ)) (ks : List Component) → Each (Placed d z) (in_element e c p bs ++ ks) → Each (Placed d z) ks
  unfolding in_element
  placed_rest e c p [] ks h = h
  placed_rest e c p (b ∷ bs) ks (more f h) = placed_rest e (c + 1) (p + length b + 1) bs ks h

  -- from that place on they are empty
  empty-from : (e c p : ℕ) (bs : List (List ℕ)) (ks : List Component) → Each (Placed d z) (in_element e c p bs ++ ks) → z ≤ p → (j : ℕ) → get_or bs j [] ≡ []
  unfolding in_element
  empty-from e c p [] ks h l j = refl
  empty-from e c p (b ∷ bs) ks (more f h) l zero =
      let w = f.within in
      no_byte b (omega arith)
  empty-from e c p (b ∷ bs) ks (more f h) l (suc j) = empty-from e (c + 1) (p + length b + 1) bs ks h (omega arith) j

  -- in an element of which the first component has the number c0: the one that is found ends at z or at the byte before
  behind_in
      : (a e c0 p i j : ℕ) (bs : List (List ℕ)) (ks : List Component) → i < j → Each (Placed d z) (in_element e c0 p bs ++ ks) → (c : ℕ) → c ≡ c0 + i
      → z ≤ (span_in a e c (in_element e c0 p bs ++ ks)).end + 1 → get_or bs j [] ≡ []
  unfolding span_in in_element
  behind_in a e c0 p i j [] ks l h c q t = refl
  behind_in a e c0 p i zero (b ∷ bs) ks l h c q t = absurd (omega arith)
  behind_in a e c0 p zero (suc j) (b ∷ bs) ks l (more f h) c q t =
      let m : c0 ≡ c = omega arith in
      empty-from e (c0 + 1) (p + length b + 1) bs ks h (rw (eq-eqb e e refl, eq-eqb c0 c m) at t) j
  behind_in a e c0 p (suc i) (suc j) (b ∷ bs) ks l (more f h) c q t =
      let m : c0 ≡ c → ⊥ = λ r. omega arith in
      behind_in a e (c0 + 1) (p + length b + 1) i j bs ks (omega arith) h c (omega arith) (rw (eq-eqb e e refl, ne_eqb c0 c m) at t)

  behind-of
      : (a e e0 p k c j : ℕ) (es : List (List (List ℕ))) → c < j → Each (Placed d z) (in_elements e0 p es) → e ≡ e0 + k
      → z ≤ (span_in a e c (in_elements e0 p es)).end + 1 → get_or (get_or es k []) j [] ≡ []
  unfolding in_elements
  behind-of a e e0 p k c j [] l h q t = refl
  behind-of a e e0 p zero c j (bs ∷ es) l h q t =
      let m : e ≡ e0 = omega arith in
      behind_in a e0 0 p c j bs _ l h c (omega arith) (rw m at t)
  behind-of a e e0 p (suc k) c j (bs ∷ es) l h q t =
      let m : e0 ≡ e → ⊥ = λ r. omega arith in
      behind-of a e (e0 + 1) (p + width bs) k c j es l (placed_rest e0 0 p bs _ h) (omega arith) (rw (span-other a e e0 c 0 p bs _ m) at t)

module _ (y : Syntax) (d : List ℕ) (start end : ℕ) (s : Span) (is : s ≡ component_at y d start end 1 1) where
  no_unit : end ≤ s.end + 1 → component y (part start end d) 1 5 ≡ []
  unfolding component component_at components
  no_unit h =
      let z = min end (length d) in
      let t : z ≤ (component_at y d start end 1 1).end + 1 = rw is at (let m : z ≤ s.end + 1 = omega arith in m) in
      behind-of d z start 1 0 start 1 1 5 (elements y (part start end d)) (omega arith) (components_placed y d start end) (omega arith) t

  pub price-last : end ≤ s.end + 1 → pos 0 ≡ unit_rank y (part start end d)
  unfolding unit_rank plain same
  price-last h = rw (no_unit h)
