-- The components stand where they say, one after the other within their segment.
use Prim.Native.Nat.{ℕ, ◌+◌, ◌≤◌, min}
use mathlib.Core.Path.{◌≡◌, sym, ap, ◌∙◌}
use mathlib.Core.Bool.{Bool, true, false, cond}
use mathlib.Core.List.{List, [], ◌∷◌, head-eq_of_cons-eq, tail-eq_of_cons-eq}
use native.Mathlib.Omega.{arith}
use lib.ListN.{length}
use lib.Dec.{ltb}
use Rattle.bytewise.specs.Bytes.{part}
use Rattle.cut.specs.declared.service.Syntax.{Syntax}
use Rattle.element.specs.Elements.{elements}
use Rattle.element.specs.Components.{Component, end_of, in_element, in_elements, width, components}
use Rattle.element.specs.Cursors.{rest, cursor_at, opening, done, visit_at, visit_of, step_of}
use Rattle.element.specs.declared.cursor.Cursor.{Cursor}
use Rattle.std.specs.Prelude.{Some}
use Rattle.element.proofs.components.Each.{Each, none, more, each_append}
use Rattle.element.proofs.cursor.Visits.{visited}
use Rattle.element.proofs.cursor.Opening.{rest-opening}

-- the bytes of the component are the part of d where it stands, and that ends by the place z
pub record Placed (d : List ℕ) (z : ℕ) (k : Component) : Type 0 where
  pub bytes : k.bytes ≡ part k.start (end_of k) d
  pub within : end_of k ≤ z

step_first
    : (y : Syntax) (d : List ℕ) (k : Cursor) (f : Component) (fs : List Component) → rest y d k ≡ f ∷ fs
    → step_of y d k ≡ Some (visit_at f.element f.component f.start (end_of f) (cursor_at k.end fs))
unfolding step_of visit_of
step_first y d k f fs h = rw h

end_kept : (end : ℕ) (ks : List Component) → (cursor_at end ks).end ≤ end
unfolding cursor_at
end_kept end [] = omega arith
end_kept end (k ∷ ks) = omega arith

rest_placed : (y : Syntax) (d : List ℕ) (z : ℕ) (k : Cursor) (ks : List Component) → min k.end (length d) ≤ z → rest y d k ≡ ks → Each (Placed d z) ks
rest_placed y d z k [] m h = none
rest_placed y d z k (f ∷ fs) m h =
    let v = visited y d k f.element f.component f.start (end_of f) (cursor_at k.end fs) (step_first y d k f fs h) in
    let e = sym h ∙ v.list in
    let l = end_kept k.end fs in
    let w = v.within in
    more {k = f} (record { bytes = ap (λ (c : Component). c.bytes) (head-eq_of_cons-eq e); within = omega arith })
    (rest_placed y d z (cursor_at k.end fs) fs (omega arith) (sym (tail-eq_of_cons-eq e)))

cond_end : (b : Bool) (k : Cursor) → (cond b k done).end ≤ k.end
cond_end true k = omega arith
cond_end false k = omega arith

opening_end : (d : List ℕ) (start end : ℕ) → (opening d start end).end ≤ end
unfolding opening
opening_end d start end = cond_end (ltb start (min end (length d))) (record { element = 0; component = 0; place = start; end = end })

pub components_placed : (y : Syntax) (d : List ℕ) (start end : ℕ) → Each (Placed d (min end (length d))) (components y start (part start end d))
components_placed y d start end =
    let l = opening_end d start end in
    rest_placed y d (min end (length d)) (opening d start end) _ (omega arith) (rest-opening y d start end)

in_element-from : (a e c p : ℕ) (bs : List (List ℕ)) → a ≤ p → Each (λ k. a ≤ k.start) (in_element e c p bs)
unfolding in_element
in_element-from a e c p [] h = none
in_element-from a e c p (b ∷ bs) h = more h (in_element-from a e (c + 1) (p + length b + 1) bs (omega arith))

in_elements-from : (a e p : ℕ) (es : List (List (List ℕ))) → a ≤ p → Each (λ k. a ≤ k.start) (in_elements e p es)
unfolding in_elements
in_elements-from a e p [] h = none
in_elements-from a e p (bs ∷ es) h = each_append _ _ _ (in_element-from a e 0 p bs h) (in_elements-from a (e + 1) (p + width bs) es (omega arith))

-- no component begins before the segment
pub components_from : (y : Syntax) (p : ℕ) (s : List ℕ) → Each (λ k. p ≤ k.start) (components y p s)
unfolding components
components_from y p s = in_elements-from p 0 p (elements y s) (omega arith)
