-- The two places that the pass gathers are those of the components.
use Prim.Native.Nat.{ℕ, ◌+◌, ◌≤◌, ◌<◌}
use mathlib.Core.Bool.{Bool, true, false, cond, ◌&&◌, and-false}
use mathlib.Core.Path.{◌≡◌, refl, sym, ap, ◌∙◌}
use mathlib.Core.List.{List, [], ◌∷◌, ◌++◌}
use native.Mathlib.Omega.{arith}
use lib.ListN.{length}
use lib.Dec.{eqb}
use borrow.Author.Tests.{ne_eqb, eqb-true, eqb-false}
use Rattle.bytewise.specs.Bytes.{part}
use Rattle.cut.specs.declared.service.Syntax.{Syntax}
use Rattle.bytewise.proofs.Parts.{length_part}
use Rattle.element.specs.Elements.{elements}
use Rattle.element.specs.Components.{Component, end_of, in_element, in_elements, width, components, span_in, component_at}
use Rattle.element.specs.Cursors.{rest_from}
use Rattle.element.specs.declared.components.Span.{Span}
use Rattle.element.proofs.ComponentFace.{from, Ended, components-some, rest-last, rest-element, rest-component}
use Rattle.page.specs.workers.Places.{first_of, places_on}
use Rattle.element.specs.Elements.{ending_at}
use Rattle.element.specs.declared.endings.Ending.{Ending}
use Rattle.element.specs.declared.endings.Ending.TheVariants as ends
use Rattle.page.specs.declared.places.Places.{Places}
use Rattle.page.proofs.pages.Stops.{element-not_component, segment-not_component, stop-further, stop-none, stop_enters, stop-done}

-- ---- one component

module _ (e c : ℕ) (s : Span) (p : Places) where
  pub places_inner : (c ≡ 0 → ⊥) → p ≡ places_on e c s p
  unfolding places_on first_of
  places_inner h = rw (ne_eqb c 0 h, and-false (eqb e 1), and-false (eqb e 3))

  module _ (h : c ≡ 0) where
    pub places_first : e ≡ 1 → record { first = s; third = p.third } ≡ places_on e c s p
    unfolding places_on first_of
    places_first i = rw (h, i)

    pub places_third : e ≡ 3 → record { first = p.first; third = s } ≡ places_on e c s p
    unfolding places_on first_of
    places_third i = rw (h, i)

    pub places_other : (e ≡ 1 → ⊥) → (e ≡ 3 → ⊥) → p ≡ places_on e c s p
    unfolding places_on first_of
    places_other i j = rw (ne_eqb e 1 i, ne_eqb e 3 j)

-- ---- a list of components

module _ (t : ℕ) where
  -- the place of the last one that is the first of element t; z, if there is none
  unfoldable pub sought : Span → List Component → Span
  sought z [] = z
  sought z (k ∷ ks) = sought (first_of t k.element k.component (record { start = k.start; end = end_of k }) z) ks

  -- a component that is not it
  first-not : (e c : ℕ) (s z : Span) → eqb e t && eqb c 0 ≡ false → first_of t e c s z ≡ z
  unfolding first_of
  first-not e c s z h = rw h

  other : (e c : ℕ) → (e ≡ t → ⊥) → eqb e t && eqb c 0 ≡ false
  other e c h = rw (ne_eqb e t h)

  later : (e c : ℕ) → 0 < c → eqb e t && eqb c 0 ≡ false
  later e c h = rw (ne_eqb c 0 (λ z. omega arith)) (and-false (eqb e t))

  -- components none of which is it
  module _ (e : ℕ) (ks : List Component) where
    skipped : (z : Span) (c p : ℕ) (bs : List (List ℕ)) → ((i : ℕ) → c ≤ i → eqb e t && eqb i 0 ≡ false) → sought z (in_element e c p bs ++ ks) ≡ sought z ks
    unfolding sought in_element
    skipped z c p [] h = refl
    skipped z c p (b ∷ bs) h =
        ap (λ (w : Span). sought w (in_element e (c + 1) (p + length b + 1) bs ++ ks))
        (first-not e c (record { start = p; end = p + length b }) z (h c (omega arith)))
        ∙ skipped z (c + 1) (p + length b + 1) bs (λ i l. h i (omega arith))

    missed : (a c p : ℕ) (bs : List (List ℕ)) → ((i : ℕ) → c ≤ i → eqb e t && eqb i 0 ≡ false) → span_in a t 0 (in_element e c p bs ++ ks) ≡ span_in a t 0 ks
    unfolding span_in in_element
    missed a c p [] h = refl
    missed a c p (b ∷ bs) h = rw (h c (omega arith)) (missed a (c + 1) (p + length b + 1) bs (λ i l. h i (omega arith)))

  -- elements behind it
  passed : (z : Span) (e p : ℕ) (es : List (List (List ℕ))) → t < e → sought z (in_elements e p es) ≡ z
  unfolding sought in_elements
  passed z e p [] h = refl
  passed z e p (bs ∷ es) h =
      skipped e (in_elements (e + 1) (p + width bs) es) z 0 p bs (λ i l. other e i (λ q. omega arith)) ∙ passed z (e + 1) (p + width bs) es (omega arith)

  -- the components bs of element e, and the elements es behind it
  module _ (a e p q : ℕ) (es : List (List (List ℕ)))
      (ih : sought (record { start = a; end = a }) (in_elements (e + 1) q es) ≡ span_in a t 0 (in_elements (e + 1) q es)) where
    once_by
        : (b : Bool) → eqb e t ≡ b → (bs : List (List ℕ))
        → sought (record { start = a; end = a }) (in_element e 0 p bs ++ in_elements (e + 1) q es)
        ≡ span_in a t 0 (in_element e 0 p bs ++ in_elements (e + 1) q es)
    unfolding sought span_in in_element first_of
    once_by false n bs =
        let miss : (i : ℕ) → 0 ≤ i → eqb e t && eqb i 0 ≡ false = λ i l. other e i (eqb-false e t n) in
        skipped e (in_elements (e + 1) q es) (record { start = a; end = a }) 0 p bs miss ∙ ih ∙ sym (missed e (in_elements (e + 1) q es) a 0 p bs miss)
    once_by true n [] = ih
    once_by true n (b ∷ bs) =
        let m = eqb-true e t n in
        ap (λ (w : Bool). sought (cond (w && true) (record { start = p; end = p + length b }) (record { start = a; end = a }))
        (in_element e 1 (p + length b + 1) bs ++ in_elements (e + 1) q es)) n
        ∙ skipped e (in_elements (e + 1) q es) (record { start = p; end = p + length b }) 1 (p + length b + 1) bs (λ i l. later e i (omega arith))
        ∙ passed (record { start = p; end = p + length b }) (e + 1) q es (omega arith)
        ∙ rw n

  -- there is at most one
  sought_once : (a e p : ℕ) (es : List (List (List ℕ))) → sought (record { start = a; end = a }) (in_elements e p es) ≡ span_in a t 0 (in_elements e p es)
  unfolding sought span_in in_elements
  sought_once a e p [] = refl
  sought_once a e p (bs ∷ es) = once_by a e p (p + width bs) es (sought_once a (e + 1) (p + width bs) es) (eqb e t) refl bs

  -- ---- the components of a segment

  module _ (y : Syntax) (d : List ℕ) where
    pub sought_begins
        : (start limit : ℕ) → start < limit → limit ≤ length d
        → sought (record { start = start; end = start }) (rest_from 0 0 start (from y d start limit)) ≡ component_at y d start limit t 0
    unfolding component_at components
    sought_begins start limit h fits =
        let l : 0 < length (part start limit d) = rw (length_part d start limit fits) (omega arith) in
        ap (sought (record { start = start; end = start })) (sym (components-some y start (part start limit d) l))
        ∙ sought_once start 0 start (elements y (part start limit d))

    -- behind component c of element e
    module _ (z : Span) (ans : Span) (a limit e c stop : ℕ) (q : sought z (rest_from e c a (from y d a limit)) ≡ ans) (n : Ended y d a limit stop)
        (fits : limit ≤ length d) (k : Ending) (s : k ≡ ending_at y d stop limit)
        (z' : Span) (f : z' ≡ first_of t e c (record { start = a; end = stop }) z) where
      stepped
          : (ks : List Component) → rest_from e c a (from y d a limit)
          ≡ record { element = e; component = c; start = a; bytes = (from y d a limit).bytes } ∷ ks → sought z' ks ≡ ans
      unfolding sought
      stepped ks r = rw (f, n.ends) (sym (ap (sought z) r) ∙ q)

      place : a + length (from y d a limit).bytes + 1 ≡ stop + 1
      place = omega (arith, n.ends)

      module _ (on : ℕ) (o : on ≡ stop + 1) where
        pub sought_further : k ≡ ends.Component → sought z' (rest_from e (c + 1) on (from y d on limit)) ≡ ans
        sought_further i =
            let m = stop-further y d a limit stop n fits k s i in
            rw o (stepped _ (rw place at (rest-component e c a (from y d a limit) (from y d (stop + 1) limit) m.0 m.1)))

        pub sought_enter : k ≡ ends.Element → sought z' (rest_from (e + 1) 0 on (from y d on limit)) ≡ ans
        sought_enter i =
            rw o
            (stepped _
            (rw place at (rest-element e c a (from y d a limit) (from y d (stop + 1) limit) (stop-none y d a limit stop n fits k s (element-not_component k i))
            (stop_enters y d a limit stop n fits k s i))))

      pub sought_done : k ≡ ends.Segment → z' ≡ ans
      unfolding sought
      sought_done i =
          stepped [] (rest-last e c a (from y d a limit)
          (record { components = stop-none y d a limit stop n fits k s (segment-not_component k i); elements = stop-done y d a limit stop n fits k s i }))

-- ---- both places

-- before component c of element e at the place a, the places p are known
pub record Gathered (y : Syntax) (d : List ℕ) (start limit : ℕ) (p : Places) (a e c : ℕ) : Type 0 where
  pub first : sought 1 p.first (rest_from e c a (from y d a limit)) ≡ component_at y d start limit 1 0
  pub third : sought 3 p.third (rest_from e c a (from y d a limit)) ≡ component_at y d start limit 3 0

module _ (y : Syntax) (d : List ℕ) (start limit : ℕ) where
  pub gather_begins
      : start < limit → limit ≤ length d → (p : Places) → p
      ≡ record { first = record { start = start; end = start }; third = record { start = start; end = start } }
      → (a : ℕ) → a ≡ start → Gathered y d start limit p a 0 0
  gather_begins h fits p e a g = rw (e, g) (record { first = sought_begins 1 y d start limit h fits; third = sought_begins 3 y d start limit h fits })

  module _ (p : Places) (a e c : ℕ) (q : Gathered y d start limit p a e c) (stop : ℕ) (n : Ended y d a limit stop)
      (fits : limit ≤ length d) (k : Ending) (s : k ≡ ending_at y d stop limit)
      (p' : Places) (f : p' ≡ places_on e c (record { start = a; end = stop }) p) where
    now-first : p'.first ≡ first_of 1 e c (record { start = a; end = stop }) p.first
    unfolding places_on
    now-first = ap (λ (r : Places). r.first) f

    now-third : p'.third ≡ first_of 3 e c (record { start = a; end = stop }) p.third
    unfolding places_on
    now-third = ap (λ (r : Places). r.third) f

    module _ (on : ℕ) (o : on ≡ stop + 1) where
      pub gather_further : k ≡ ends.Component → Gathered y d start limit p' on e (c + 1)
      gather_further i = record {
        first = sought_further 1 y d _ _ a limit e c stop q.first n fits k s _ now-first on o i;
        third = sought_further 3 y d _ _ a limit e c stop q.third n fits k s _ now-third on o i;
      }

      pub gather_enter : k ≡ ends.Element → Gathered y d start limit p' on (e + 1) 0
      gather_enter i = record {
        first = sought_enter 1 y d _ _ a limit e c stop q.first n fits k s _ now-first on o i;
        third = sought_enter 3 y d _ _ a limit e c stop q.third n fits k s _ now-third on o i;
      }

    pub gather_done : k ≡ ends.Segment → (p'.first ≡ component_at y d start limit 1 0) × (p'.third ≡ component_at y d start limit 3 0)
    gather_done i =
        (sought_done 1 y d _ _ a limit e c stop q.first n fits k s _ now-first i, sought_done 3 y d _ _ a limit e c stop q.third n fits k s _ now-third i)
