-- The walk to a component: where it stands, and each step of it.
use Prim.Native.Nat.{ℕ, ◌+◌, ◌≤◌, ◌<◌, min}
use mathlib.Core.Path.{◌≡◌, refl, sym, ap, ◌∙◌}
use mathlib.Core.Bool.{and-false, true, false, ◌&&◌}
use mathlib.Core.Logic.{◌⊎◌, inl, inr}
use mathlib.Core.List.{List}
use native.Mathlib.Omega.{arith}
use borrow.Author.Tests.{eq-eqb, ne_eqb, lt-ltb, le-ltb}
use lib.ListN.{length, drop}
use lib.Dec.{eqb}
use Rattle.bytewise.specs.Bytes.{part}
use Rattle.cut.specs.declared.service.Syntax.{Syntax}
use Rattle.element.specs.Elements.{component, ending_at}
use Rattle.element.specs.declared.endings.Ending.TheVariants as ends
use Rattle.element.specs.Components.{span_in, component_at}
use Rattle.element.specs.Cursors.{rest, done, cursor_at, opening, Stopped}
use Rattle.element.specs.declared.components.Span.{Span}
use Rattle.element.specs.declared.cursor.Cursor.{Cursor}
use Rattle.bytewise.proofs.Limits.{limited}
use Rattle.element.proofs.cursor.Standing.{Stands, standing_of, rest-done}
use Rattle.element.proofs.cursor.Onward.{next_by, after-ending, step-at}
use Rattle.element.proofs.cursor.Visits.{Visited, visited}
use Rattle.element.proofs.scan.Endings.{inside-element, inside-component}
use Rattle.element.proofs.components.Searching.{search_begins, search_out, search_later, search_found, search_next}

-- other numbers than those of the component, and the same
pub differs : (e element c component' : ℕ) → ((e ≡ element) × (c ≡ component' → ⊥)) ⊎ (e ≡ element → ⊥) → eqb e element && eqb c component' ≡ false
differs e element c component' (inl h) = rw (ne_eqb c component' h.1) (and-false (eqb e element))
differs e element c component' (inr h) = rw (ne_eqb e element h)

pub equal : (e element c component' : ℕ) → e ≡ element → c ≡ component' → eqb e element && eqb c component' ≡ true
equal e element c component' h k = rw (eq-eqb e element h, eq-eqb c component' k)

-- the cursor before component c of element e, at the place i
abbrev at : ℕ → ℕ → ℕ → ℕ → Cursor
at e c i end = record { element = e; component = c; place = i; end = end }

module _ (y : Syntax) (d : List ℕ) (start element component' limit : ℕ) where
  -- where the component that is looked for stands; a missing one
  abbrev answer : Span
  answer = component_at y d start limit element component'

  abbrev missing : Span
  missing = record { start = start; end = start }

  -- the walk stands before component c of element e, at the place i, and the search among what is left gives the answer
  pub record Walking (e c i : ℕ) : Type 0 where
    pub within : limit ≤ length d
    pub stands : Stands d (at e c i limit)
    pub search : span_in start element component' (rest y d (at e c i limit)) ≡ answer

  -- an end past the delivery counts as the delivery's end
  module _ (end : ℕ) (w : limit ≡ min end (length d)) where
    pub walk_limited : answer ≡ component_at y d start end element component'
    unfolding component_at
    walk_limited = rw (limited d start end limit w)

    pub walk_none : limit ≤ start → missing ≡ component_at y d start end element component'
    unfolding opening
    walk_none h =
        let l : min end (length d) ≤ start = omega arith in
        sym (search_out y d start element component' done (rest-done y d))
        ∙ search_begins y d start element component' end done (rw (le-ltb _ _ l))

  pub walk_start : start < limit → limit ≤ length d → (i : ℕ) → i ≡ start → Walking 0 0 i
  unfolding opening
  walk_start h fits i p =
      let l : start < min limit (length d) = omega arith in
      rw p
      (record {
        within = fits;
        stands = record { place = omega arith; element = omega arith; component = omega arith };
        search = search_begins y d start element component' limit (at 0 0 start limit) (rw (lt-ltb _ _ l));
      })

  -- in an element behind that of the component
  pub walk-later : (e c i : ℕ) → Walking e c i → element < e → missing ≡ answer
  walk-later e c i w h = sym (search_later y d start element component' (at e c i limit) (standing_of d _ w.stands) h) ∙ w.search

  module _ (e c i : ℕ) (w : Walking e c i) (stop : ℕ) (s : stop ≡ i + length (component y (part i limit d) 0 0)) where
    stopped : Stopped y d (at e c i limit) stop limit
    stopped = record { stands = standing_of d _ w.stands; within = omega (arith, w.within); stops = s }

    abbrev next : Cursor
    next = cursor_at limit (drop 1 (rest y d (at e c i limit)))

    here : Visited y d (at e c i limit) e c i stop next
    here = visited y d (at e c i limit) e c i stop next (step-at y d (at e c i limit) stop limit stopped next refl)

    pub walk-found : eqb e element && eqb c component' ≡ true → record { start = i; end = stop } ≡ answer
    walk-found t = sym (search_found y d start element component' (at e c i limit) e c i stop next here t) ∙ w.search

    module _ (f : eqb e element && eqb c component' ≡ false) where
      on : (m : Cursor) → next ≡ m → span_in start element component' (rest y d m) ≡ answer
      on m h =
          ap (λ (n : Cursor). span_in start element component' (rest y d n)) (sym h)
          ∙ sym (search_next y d start element component' (at e c i limit) e c i stop next here f)
          ∙ w.search

      out : next ≡ done → missing ≡ answer
      out h = sym (search_out y d start element component' done (rest-done y d)) ∙ on done h

      pub walk_out : ending_at y d stop limit ≡ ends.Segment → missing ≡ answer
      unfolding next_by
      walk_out g = out (after-ending y d (at e c i limit) stop limit stopped ends.Segment g)

      -- the numbers and the place of the next component, by the byte before it
      pub walk-element : ending_at y d stop limit ≡ ends.Element → (e' c' i' : ℕ) → e' ≡ e + 1 → c' ≡ 0 → i' ≡ stop + 1 → Walking e' c' i'
      unfolding next_by
      walk-element g e' c' i' p q r =
          let l = inside-element y d stop limit g in
          let b = w.within in
          let t = w.stands in
          rw (p, q, r)
          (record {
            within = w.within;
            stands = record { place = omega arith; element = omega arith; component = omega arith };
            search = on _ (after-ending y d (at e c i limit) stop limit stopped ends.Element g);
          })

      pub walk-component : ending_at y d stop limit ≡ ends.Component → (e' c' i' : ℕ) → e' ≡ e → c' ≡ c + 1 → i' ≡ stop + 1 → Walking e' c' i'
      unfolding next_by
      walk-component g e' c' i' p q r =
          let l = inside-component y d stop limit g in
          let b = w.within in
          let t = w.stands in
          rw (p, q, r)
          (record {
            within = w.within;
            stands = record { place = omega arith; element = omega arith; component = omega arith };
            search = on _ (after-ending y d (at e c i limit) stop limit stopped ends.Component g);
          })
