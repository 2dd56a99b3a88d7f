-- The numbers of the components are right: each is the component of the plain definition that its numbers name.
use Prim.Native.Nat.{ℕ, suc, ◌+◌}
use mathlib.Core.Path.{◌≡◌, sym}
use mathlib.Core.List.{List, [], ◌∷◌}
use native.Mathlib.Omega.{arith}
use lib.ListN.{length, get_or}
use Rattle.cut.specs.declared.service.Syntax.{Syntax}
use Rattle.element.specs.Elements.{elements, component}
use Rattle.element.specs.Components.{Component, in_element, in_elements, width, components}
use Rattle.element.proofs.components.Each.{Each, none, more, each_append}

-- the components bs, which stand in the elements es as those of element e from number c on
module _ (es : List (List (List ℕ))) where
  abbrev Named : Component → Type 0
  Named k = k.bytes ≡ get_or (get_or es k.element []) k.component []

  in_element-named
      : (e c p : ℕ) (bs : List (List ℕ)) → ((j : ℕ) → get_or (get_or es e []) (c + j) [] ≡ get_or bs j []) → Each Named (in_element e c p bs)
  unfolding in_element
  in_element-named e c p [] h = none
  in_element-named e c p (b ∷ bs) h =
      let z : c + 0 ≡ c = omega arith in
      more (sym (rw z at (h 0)))
      (in_element-named e (c + 1) (p + length b + 1) bs
      (λ j.
      let n : c + 1 + j ≡ c + suc j = omega arith in
      rw n (h (suc j))))

  in_elements-named
      : (e p : ℕ) (ls : List (List (List ℕ))) → ((i : ℕ) → get_or es (e + i) [] ≡ get_or ls i []) → Each Named (in_elements e p ls)
  unfolding in_elements
  in_elements-named e p [] h = none
  in_elements-named e p (bs ∷ ls) h =
      let z : e + 0 ≡ e = omega arith in
      each_append Named _ _
      (in_element-named e 0 p bs
      (λ j.
      let n : 0 + j ≡ j = omega arith in
      rw (n, rw z at (h 0))))
      (in_elements-named (e + 1) (p + width bs) ls
      (λ i.
      let n : e + 1 + i ≡ e + suc i = omega arith in
      rw n (h (suc i))))

pub components-named : (y : Syntax) (p : ℕ) (s : List ℕ) → Each (λ k. k.bytes ≡ component y s k.element k.component) (components y p s)
unfolding components component
components-named y p s =
    in_elements-named (elements y s) 0 p (elements y s)
    (λ i.
    let n : 0 + i ≡ i = omega arith in
    rw n)
