-- The walk to a component that counts down what is left before it.
use Prim.Native.Nat.{ℕ, ◌+◌, ◌-◌, ◌≤◌, ◌<◌}
use mathlib.Core.Path.{◌≡◌, refl, sym, ap, ◌∙◌}
use mathlib.Core.Bool.{Bool, true, false, ◌&&◌, true≢false, and-false}
use mathlib.Core.List.{List}
use native.Mathlib.Omega.{arith}
use borrow.Author.Tests.{eq-eqb, ne_eqb, eqb-true, eqb-false}
use lib.ListN.{length, get_or}
use lib.Dec.{eqb}
use Rattle.bytewise.specs.Bytes.{part}
use Rattle.cut.specs.declared.service.Syntax.{Syntax}
use Rattle.element.specs.Elements.{ending_of, stays, component}
use Rattle.element.specs.Components.{component_at}
use Rattle.element.specs.Services.{usual_services}
use Rattle.element.specs.declared.components.Span.{Span}
use Rattle.element.proofs.UsualServices.{usual_are}
use Rattle.element.proofs.components.Walking.{Walking, walk_start, walk-later, walk-found, walk_out, walk-element, walk-component}
use Rattle.element.proofs.scan.Endings.{ending_nothing, at-segment, at-element, at-component}

module _ (y : Syntax) (d : List ℕ) (start element component' limit : ℕ) where
  -- where the component that is looked for stands; a missing one
  abbrev answer : Span
  answer = component_at y d start limit element component'

  abbrev missing : Span
  missing = record { start = start; end = start }

  -- the walk stands at the place i, e elements before that of the component and, if it is in that element, c components before it. The numbers of components
  -- in other elements are not counted
  pub record Counting (e c i : ℕ) : Type 0 where
    pub number : ℕ
    pub ahead : e ≤ element
    pub inner : e ≡ 0 → number + c ≡ component'
    pub outer : (e ≡ 0 → ⊥) → c ≡ component'
    pub walks : Walking y d start element component' limit (element - e) number i

  pub count-start : start < limit → limit ≤ length d → (i : ℕ) → i ≡ start → Counting element component' i
  count-start h fits i p =
      let z : element - element ≡ 0 = omega arith in
      record {
        number = 0;
        ahead = omega arith;
        inner = λ k. omega arith;
        outer = λ k. refl;
        walks = rw z (walk_start y d start element component' limit h fits i p);
      }

  module _ (e c i : ℕ) (k : Counting e c i) (stop : ℕ) (s : stop ≡ i + length (component y (part i limit d) 0 0)) where
    -- the component at the place i is the one that is looked for, or another
    abbrev is : Bool
    is = eqb (element - e) element && eqb k.number component'

    pub count-found : e ≡ 0 → c ≡ 0 → record { start = i; end = stop } ≡ answer
    count-found p q =
        let n = k.inner p in
        walk-found y d start element component' limit (element - e) k.number i k.walks stop s
        (rw (eq-eqb (element - e) element (omega arith), eq-eqb k.number component' (omega arith)))

    is_later : e ≡ 0 → (c ≡ 0 → ⊥) → is ≡ false
    is_later p q =
        let n = k.inner p in
        rw (ne_eqb k.number component' (λ z. q (omega arith))) (and-false (eqb (element - e) element))

    is-further : (e ≡ 0 → ⊥) → is ≡ false
    is-further p =
        let n = k.ahead in
        rw (ne_eqb (element - e) element (λ z. p (omega arith)))

    module _ (h : stop < limit) where
      out : is ≡ false → get_or d stop 0 ≡ y.terminator → missing ≡ answer
      out n t =
          walk_out y d start element component' limit (element - e) k.number i k.walks stop s n (at-segment y d stop limit h k.walks.within t)

      module _ (p : e ≡ 0) (q : c ≡ 0 → ⊥) where
        -- the element ends before it
        pub count-last : stays (ending_of y false (get_or d stop 0)) ≡ false → (get_or d stop 0 ≡ y.component → ⊥) → missing ≡ answer
        unfolding stays
        count-last f x = go (eqb (get_or d stop 0) y.terminator) refl (eqb (get_or d stop 0) y.element) refl
          where
            go : (a : Bool) → eqb (get_or d stop 0) y.terminator ≡ a → (b : Bool) → eqb (get_or d stop 0) y.element ≡ b → missing ≡ answer
            go true t b u = out (is_later p q) (eqb-true _ _ t)
            go false t true u =
                walk-later y d start element component' limit (element - e + 1) 0 (stop + 1)
                (walk-element y d start element component' limit (element - e) k.number i k.walks stop s (is_later p q)
                (at-element y d stop limit h k.walks.within (eqb-false _ _ t) (eqb-true _ _ u)) _ _ _ refl refl refl)
                (omega arith)
            go false t false u = absurd (true≢false (sym (ap stays (ending_nothing y _ (eqb-false _ _ t) (eqb-false _ _ u) x)) ∙ f))

        pub count-component : usual_services y ≡ true → get_or d stop 0 ≡ y.component → (c' i' : ℕ) → c' ≡ c - 1 → i' ≡ stop + 1 → Counting e c' i'
        count-component u x c' i' v w =
            let l = usual_are y u in
            let n = k.inner p in
            record {
              number = k.number + 1;
              ahead = k.ahead;
              inner = λ z. omega (arith, q);
              outer = λ z. absurd (z p);
              walks =
                  walk-component y d start element component' limit (element - e) k.number i k.walks stop s (is_later p q)
                  (at-component y d stop limit h k.walks.within (λ t. omega (arith, t, l)) (λ t. omega (arith, t, l))) _ _ _ refl refl w;
            }

      module _ (p : e ≡ 0 → ⊥) where
        pub count_out : get_or d stop 0 ≡ y.terminator → missing ≡ answer
        count_out t = out (is-further p) t

        module _ (t : get_or d stop 0 ≡ y.terminator → ⊥) where
          pub count-element : get_or d stop 0 ≡ y.element → (e' i' : ℕ) → e' ≡ e - 1 → i' ≡ stop + 1 → Counting e' c i'
          count-element x e' i' v w =
              let a = k.ahead in
              let n = k.outer p in
              let z : element - e' ≡ element - e + 1 = omega (arith, p) in
              record {
                number = 0;
                ahead = omega arith;
                inner = λ m. omega arith;
                outer = λ m. n;
                walks =
                    walk-element y d start element component' limit (element - e) k.number i k.walks stop s (is-further p)
                    (at-element y d stop limit h k.walks.within t x) _ _ _ z refl w;
              }

          pub count_on : (get_or d stop 0 ≡ y.element → ⊥) → (i' : ℕ) → i' ≡ stop + 1 → Counting e c i'
          count_on x i' w =
              record {
                number = k.number + 1;
                ahead = k.ahead;
                inner = λ m. absurd (p m);
                outer = k.outer;
                walks =
                    walk-component y d start element component' limit (element - e) k.number i k.walks stop s (is-further p)
                    (at-component y d stop limit h k.walks.within t x) _ _ _ refl refl w;
              }
