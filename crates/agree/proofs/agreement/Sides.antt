-- Two segments, walked side by side from left to right by the numbers of their components, agree exactly if the plain definition says so.
use Prim.Native.Nat.{ℕ, ◌+◌, ◌<◌, ◌≤◌}
use mathlib.Core.Path.{◌≡◌, refl, sym, ◌∙◌}
use mathlib.Core.Bool.{Bool, true, false, cond, not, ◌&&◌, ◌||◌}
use mathlib.Core.List.{List, [], ◌∷◌, ◌++◌}
use native.Mathlib.Omega.{arith}
use lib.ListN.{length}
use lib.Dec.{eqb, leb, ltb}
use borrow.Author.Tests.{eq-eqb, ne_eqb, le-leb, lt-ltb, le-ltb, leb-false, ltb-false, eqb-true, eqb-false}
use Rattle.cut.specs.declared.service.Syntax.{Syntax}
use Rattle.element.specs.Elements.{elements}
use Rattle.element.specs.Components.{Component, in_element, in_elements, width, components}
use Rattle.plain.specs.Plain.{plain, same}
use Rattle.agree.specs.Agreement.{same_text, all_empty, same_components, empty_elements, same_elements, agree_but}
use Rattle.agree.specs.workers.Visits.{in_time}

-- what of a component is compared: nothing if it waits for its turn, or is of the element x
unfoldable pub shown_of : ℕ → Bool → Component → List ℕ
shown_of x come k = cond (not (eqb k.element x) && come) k.bytes []

-- k does not stand behind j
abbrev pub timely : Component → Component → Bool
timely k j = in_time k.element k.component j.element j.component

-- the components js have nothing beside them
unfoldable pub alone : Syntax → ℕ → List Component → Bool
alone y x [] = true
alone y x (j ∷ js) = same_text y [] (shown_of x true j) && alone y x js

-- the component k, and then what f compares, beside the components js
unfoldable pub beside : Syntax → ℕ → Component → (List Component → Bool) → List Component → Bool
beside y x k f [] = same_text y (shown_of x true k) [] && f []
beside y x k f (j ∷ js) =
    same_text y (shown_of x (timely k j) k) (shown_of x (timely j k) j)
    && cond (timely k j) (cond (timely j k) (f js) (f (j ∷ js))) (beside y x k f js)

unfoldable pub side_by_side : Syntax → ℕ → List Component → List Component → Bool
side_by_side y x [] js = alone y x js
side_by_side y x (k ∷ ks) js = beside y x k (side_by_side y x ks) js

-- of two components one is not behind the other
pub early : (e c f g : ℕ) → e < f → in_time e c f g ≡ true
unfolding in_time
early e c f g h =
    let n : e ≡ f → ⊥ = λ q. omega arith in
    rw (ne_eqb e f n, lt-ltb e f h)

pub late : (e c f g : ℕ) → f < e → in_time e c f g ≡ false
unfolding in_time
late e c f g h =
    let n : e ≡ f → ⊥ = λ q. omega arith in
    let m : f ≤ e = omega arith in
    rw (ne_eqb e f n, le-ltb e f m)

pub level : (e c : ℕ) → in_time e c e c ≡ true
unfolding in_time
level e c =
    let m : c ≤ c = omega arith in
    rw (eq-eqb e e refl, le-leb c c m)

pub one-comes : (e c f g : ℕ) → in_time e c f g ≡ false → in_time f g e c ≡ true
unfolding in_time
one-comes e c f g h = go (eqb e f) refl h
  where
    go : (b : Bool) → eqb e f ≡ b → cond b (leb c g) (ltb e f) ≡ false → cond (eqb f e) (leb g c) (ltb f e) ≡ true
    go true q k =
        let n : g ≤ c = omega (arith, leb-false c g k) in
        rw (eq-eqb f e (sym (eqb-true e f q)), le-leb g c n)
    go false q k =
        let d = eqb-false e f q in
        let n : f < e = omega (arith, ltb-false e f k) in
        let m : f ≡ e → ⊥ = λ i. omega arith in
        rw (ne_eqb f e m, lt-ltb f e n)

-- all of these components are of elements behind the element e
pub data Later (e : ℕ) : List Component → Type 0 where
  none : Later e []
  some : {k : Component} {ks : List Component} → e < k.element → Later e (k ∷ ks)

later-element : (e f c p : ℕ) (bs : List (List ℕ)) (ks : List Component) → e < f → Later e ks → Later e (in_element f c p bs ++ ks)
unfolding in_element
later-element e f c p [] ks h l = l
later-element e f c p (b ∷ bs) ks h l = some h

later-elements : (e f p : ℕ) (es : List (List (List ℕ))) → e < f → Later e (in_elements f p es)
unfolding in_elements
later-elements e f p [] h = none
later-elements e f p (bs ∷ es) h = later-element e f 0 p bs _ h (later-elements e (f + 1) (p + width bs) es (omega arith))

skip_and : (s a b m : Bool) → (s || a) && ((s || b) && m) ≡ (s || (a && b)) && m
skip_and true a b m = refl
skip_and false true b m = refl
skip_and false false b m = refl

skip_none : (s m : Bool) → (s || true) && m ≡ m
skip_none true m = refl
skip_none false m = refl

module _ (y : Syntax) (x : ℕ) where
  waits : (k : Component) → shown_of x false k ≡ []
  unfolding shown_of
  waits k = go (not (eqb k.element x))
    where
      go : (b : Bool) → cond (b && false) k.bytes [] ≡ []
      go true = refl
      go false = refl

  -- components of one element, of which either may be missing
  abbrev part : ℕ → ℕ → ℕ → List ℕ → Component
  part e c p b = record { element = e; component = c; start = p; bytes = b }

  shown_both
      : (e c p q : ℕ) (b b' : List ℕ) → same_text y (shown_of x true (part e c p b)) (shown_of x true (part e c q b')) ≡ eqb e x || same_text y b b'
  unfolding shown_of same_text same plain
  shown_both e c p q b b' = go (eqb e x)
    where
      go : (s : Bool) → same_text y (cond (not s && true) b []) (cond (not s && true) b' []) ≡ s || same_text y b b'
      go true = refl
      go false = refl

  shown_left : (e c p : ℕ) (b : List ℕ) → same_text y (shown_of x true (part e c p b)) [] ≡ eqb e x || same_text y b []
  unfolding shown_of same_text same plain
  shown_left e c p b = go (eqb e x)
    where
      go : (s : Bool) → same_text y (cond (not s && true) b []) [] ≡ s || same_text y b []
      go true = refl
      go false = refl

  shown_right : (e c p : ℕ) (b : List ℕ) → same_text y [] (shown_of x true (part e c p b)) ≡ eqb e x || same_text y [] b
  unfolding shown_of same_text same plain
  shown_right e c p b = go (eqb e x)
    where
      go : (s : Bool) → same_text y [] (cond (not s && true) b []) ≡ s || same_text y [] b
      go true = refl
      go false = refl

  -- a component that stands before all that is left on the other side is compared with nothing
  step_right
      : (e c p : ℕ) (b : List ℕ) (ks js : List Component) → Later e ks
      → side_by_side y x ks (part e c p b ∷ js) ≡ (eqb e x || same_text y [] b) && side_by_side y x ks js
  unfolding side_by_side alone beside
  step_right e c p b [] js none = rw (shown_right e c p b)
  step_right e c p b (k ∷ ks) js (some h) = rw (late k.element k.component e c h, early e c k.element k.component h, waits k, shown_right e c p b)

  step_left
      : (e c p : ℕ) (b : List ℕ) (ks js : List Component) → Later e js
      → side_by_side y x (part e c p b ∷ ks) js ≡ (eqb e x || same_text y b []) && side_by_side y x ks js
  unfolding side_by_side beside
  step_left e c p b ks [] none = rw (shown_left e c p b)
  step_left e c p b ks (j ∷ js) (some h) = rw (late j.element j.component e c h, early e c j.element j.component h, waits j, shown_left e c p b)

  step_both
      : (e c p q : ℕ) (b b' : List ℕ) (ks js : List Component)
      → side_by_side y x (part e c p b ∷ ks) (part e c q b' ∷ js) ≡ (eqb e x || same_text y b b') && side_by_side y x ks js
  unfolding side_by_side beside
  step_both e c p q b b' ks js = rw (level e c, shown_both e c p q b b')

  -- one element beside nothing, nothing beside one element, and two elements with one number
  right-element
      : (e c q : ℕ) (cs : List (List ℕ)) (ks js : List Component) → Later e ks
      → side_by_side y x ks (in_element e c q cs ++ js) ≡ (eqb e x || all_empty y cs) && side_by_side y x ks js
  unfolding in_element all_empty
  right-element e c q [] ks js l = sym (skip_none (eqb e x) _)
  right-element e c q (b ∷ cs) ks js l =
      step_right e c q b ks _ l
      ∙ rw (right-element e (c + 1) (q + length b + 1) cs ks js l) (skip_and (eqb e x) (same_text y [] b) (all_empty y cs) (side_by_side y x ks js))

  left-element
      : (e c p : ℕ) (bs : List (List ℕ)) (ks js : List Component) → Later e js
      → side_by_side y x (in_element e c p bs ++ ks) js ≡ (eqb e x || same_components y bs []) && side_by_side y x ks js
  unfolding in_element same_components all_empty
  left-element e c p [] ks js l = sym (skip_none (eqb e x) _)
  left-element e c p (b ∷ bs) ks js l =
      step_left e c p b _ js l
      ∙ rw (left-element e (c + 1) (p + length b + 1) bs ks js l) (skip_and (eqb e x) (same_text y b []) (same_components y bs []) (side_by_side y x ks js))

  abbrev Elementwise : ℕ → List Component → List Component → List (List ℕ) → Type 0
  Elementwise e ks js bs =
      (c p q : ℕ) (cs : List (List ℕ))
      → side_by_side y x (in_element e c p bs ++ ks) (in_element e c q cs ++ js) ≡ (eqb e x || same_components y bs cs) && side_by_side y x ks js

  next-component : (e : ℕ) (ks js : List Component) (b : List ℕ) (bs : List (List ℕ)) → Later e js → Elementwise e ks js bs → Elementwise e ks js (b ∷ bs)
  unfolding in_element same_components
  next-component e ks js b bs l ih c p q [] = left-element e c p (b ∷ bs) ks js l
  next-component e ks js b bs l ih c p q (b' ∷ cs) =
      step_both e c p q b b' _ _
      ∙ rw (ih (c + 1) (p + length b + 1) (q + length b' + 1) cs) (skip_and (eqb e x) (same_text y b b') (same_components y bs cs) (side_by_side y x ks js))

  element_beside : (e : ℕ) (ks js : List Component) → Later e ks → Later e js → (bs : List (List ℕ)) → Elementwise e ks js bs
  unfolding in_element same_components
  element_beside e ks js l m [] = λ c p q cs. right-element e c q cs ks js l
  element_beside e ks js l m (b ∷ bs) = next-component e ks js b bs m (element_beside e ks js l m bs)

  -- the elements of two segments
  right-elements : (e q : ℕ) (fs : List (List (List ℕ))) → side_by_side y x [] (in_elements e q fs) ≡ empty_elements y x e fs
  unfolding in_elements empty_elements side_by_side alone
  right-elements e q [] = refl
  right-elements e q (cs ∷ fs) = right-element e 0 q cs [] _ none ∙ rw (right-elements (e + 1) (q + width cs) fs)

  abbrev Elementswise : List (List (List ℕ)) → Type 0
  Elementswise es = (e p q : ℕ) (fs : List (List (List ℕ))) → side_by_side y x (in_elements e p es) (in_elements e q fs) ≡ same_elements y x e es fs

  next-element : (bs : List (List ℕ)) (es : List (List (List ℕ))) → Elementswise es → Elementswise (bs ∷ es)
  unfolding in_elements same_elements
  next-element bs es ih e p q [] =
      left-element e 0 p bs (in_elements (e + 1) (p + width bs) es) [] none ∙ rw (ih (e + 1) (p + width bs) q [])
  next-element bs es ih e p q (cs ∷ fs) =
      element_beside e _ _ (later-elements e (e + 1) (p + width bs) es (omega arith)) (later-elements e (e + 1) (q + width cs) fs (omega arith)) bs 0 p q cs
      ∙ rw (ih (e + 1) (p + width bs) (q + width cs) fs)

  elements_beside : (es : List (List (List ℕ))) → Elementswise es
  unfolding in_elements same_elements
  elements_beside [] = λ e p q fs. right-elements e q fs
  elements_beside (bs ∷ es) = next-element bs es (elements_beside es)

  -- two segments
  pub components_beside : (p q : ℕ) (s t : List ℕ) → side_by_side y x (components y p s) (components y q t) ≡ agree_but y x s t
  unfolding components agree_but
  components_beside p q s t = elements_beside (elements y s) 0 p q (elements y t)
