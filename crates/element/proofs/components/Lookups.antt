-- The component with given numbers: looked for from left to right, and counted off in the lists of the plain definition.
use Prim.Native.Nat.{ℕ, zero, suc, ◌+◌, ◌<◌}
use mathlib.Core.Path.{◌≡◌, refl, ◌∙◌}
use mathlib.Core.Bool.{cond, ◌&&◌}
use mathlib.Core.List.{List, [], ◌∷◌, ◌++◌}
use native.Mathlib.Omega.{arith}
use borrow.Author.Tests.{eq-eqb, ne_eqb}
use lib.ListN.{length, get_or}
use lib.Dec.{eqb}
use Rattle.cut.specs.declared.service.Syntax.{Syntax}
use Rattle.element.specs.Elements.{elements, component}
use Rattle.element.specs.Components.{Component, in_element, in_elements, width, components}

-- the bytes of the first component with the numbers e and c
unfoldable pub bytes_in : ℕ → ℕ → List Component → List ℕ
bytes_in e c [] = []
bytes_in e c (k ∷ ks) = cond (eqb k.element e && eqb k.component c) k.bytes (bytes_in e c ks)

-- the components of another element
element-other : (e e0 c c0 p : ℕ) (bs : List (List ℕ)) (more : List Component) → (e0 ≡ e → ⊥) → bytes_in e c (in_element e0 c0 p bs ++ more) ≡ bytes_in e c more
unfolding bytes_in in_element
element-other e e0 c c0 p [] more n = refl
element-other e e0 c c0 p (b ∷ bs) more n = rw (ne_eqb e0 e n) (element-other e e0 c (c0 + 1) (p + length b + 1) bs more n)

-- the components of the element itself, of which the first has the number c0
element-at
    : (e c c0 j p : ℕ) (bs : List (List ℕ)) (more : List Component) → c ≡ c0 + j → bytes_in e c more ≡ []
    → bytes_in e c (in_element e c0 p bs ++ more) ≡ get_or bs j []
unfolding bytes_in in_element
element-at e c c0 j p [] more h n = n
element-at e c c0 zero p (b ∷ bs) more h n = rw (eq-eqb e e refl, eq-eqb c0 c (omega arith))
element-at e c c0 (suc j) p (b ∷ bs) more h n =
    let m : c0 ≡ c → ⊥ = λ q. omega arith in
    rw (eq-eqb e e refl, ne_eqb c0 c m) (element-at e c (c0 + 1) j (p + length b + 1) bs more (omega arith) n)

-- the elements after it have none of its components
later-none : (e e0 c p : ℕ) (es : List (List (List ℕ))) → e < e0 → bytes_in e c (in_elements e0 p es) ≡ []
unfolding in_elements bytes_in
later-none e e0 c p [] h = refl
later-none e e0 c p (bs ∷ es) h =
    let n : e0 ≡ e → ⊥ = λ q. omega arith in
    element-other e e0 c 0 p bs _ n ∙ later-none e (e0 + 1) c (p + width bs) es (omega arith)

elements-at : (e e0 i c p : ℕ) (es : List (List (List ℕ))) → e ≡ e0 + i → bytes_in e c (in_elements e0 p es) ≡ get_or (get_or es i []) c []
unfolding in_elements bytes_in
elements-at e e0 i c p [] h = refl
elements-at e e0 zero c p (bs ∷ es) h =
    let z : e0 ≡ e = omega arith in
    rw z (element-at e c 0 c p bs _ (omega arith) (later-none e (e + 1) c (p + width bs) es (omega arith)))
elements-at e e0 (suc i) c p (bs ∷ es) h =
    let n : e0 ≡ e → ⊥ = λ q. omega arith in
    element-other e e0 c 0 p bs _ n ∙ elements-at e (e0 + 1) i c (p + width bs) es (omega arith)

pub bytes-component : (y : Syntax) (p : ℕ) (s : List ℕ) (e c : ℕ) → bytes_in e c (components y p s) ≡ component y s e c
unfolding components component
bytes-component y p s e c = elements-at e 0 e c p (elements y s) (omega arith)
