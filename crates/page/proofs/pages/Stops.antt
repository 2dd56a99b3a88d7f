-- What ends where a component does, and what stands behind it.
use Prim.Native.Nat.{ℕ, ◌+◌, ◌≤◌, ◌<◌, min}
use mathlib.Core.Bool.{false, true≢false}
use mathlib.Core.Path.{◌≡◌, refl, sym, ap, ◌∙◌}
use mathlib.Core.List.{List, [], ◌∷◌}
use native.Mathlib.Decide.{dec_le}
use native.Mathlib.Omega.{arith}
use lib.ListN.{length, get_or}
use borrow.Author.Tests.{lt-leb}
use Rattle.std.specs.Prelude.{Option, Some, None, unwrap_or}
use Rattle.bytewise.specs.Bytes.{part}
use Rattle.cut.specs.declared.service.Syntax.{Syntax}
use Rattle.element.specs.Elements.{ending_of, ending_at, stays, Split, before}
use Rattle.element.specs.declared.endings.Ending.{Ending}
use Rattle.element.specs.declared.endings.Ending.TheVariants as ends
use Rattle.element.proofs.ComponentFace.{from, Ended, Stop, at-end}

-- what ends is one thing
pub component-not_segment : (k : Ending) → k ≡ ends.Component → k ≡ ends.Segment → ⊥
component-not_segment k e f = cc

pub element-not_segment : (k : Ending) → k ≡ ends.Element → k ≡ ends.Segment → ⊥
element-not_segment k e f = cc

pub element-not_component : (k : Ending) → k ≡ ends.Element → k ≡ ends.Component → ⊥
element-not_component k e f = cc

pub segment-not_component : (k : Ending) → k ≡ ends.Segment → k ≡ ends.Component → ⊥
segment-not_component k e f = cc

-- what stands behind the component that begins at the place a
module _ (y : Syntax) (d : List ℕ) (a limit stop : ℕ) (z : Ended y d a limit stop) (fits : limit ≤ length d) (k : Ending) (s : k ≡ ending_at y d stop limit)
  where
    -- what stands from the component on, and behind the byte that ends it
    abbrev S : Split
    S = from y d a limit

    abbrev T : Split
    T = from y d (stop + 1) limit

    abbrev x : Option Ending
    x = ending_of y false (get_or d stop 0)

    module _ (h : stop < limit) where
      kind : k ≡ unwrap_or x ends.Component
      unfolding ending_at
      kind = s ∙ rw (lt-leb (min limit (length d)) stop (omega arith))

      more : Stop y S (get_or d stop 0) (part (stop + 1) limit d)
      more = z.more h

      stuck : {A : Type 0} → x ≡ None → A
      unfolding stays
      stuck n = absurd (true≢false (sym (ap stays n) ∙ more.ends))

      -- a component follows, or an element, or nothing
      component-by : (g : Option Ending) → x ≡ g → unwrap_or g ends.Component ≡ ends.Component → (S.components ≡ T.bytes ∷ T.components) × (S.elements
          ≡ T.elements)
      unfolding before
      component-by (Some ends.Segment) n i = absurd cc
      component-by (Some ends.Element) n i = absurd cc
      component-by (Some ends.Component) n i = (rw n at more.components, rw n at more.elements)
      component-by None n i = stuck n

      element-by : (g : Option Ending) → x ≡ g → unwrap_or g ends.Component ≡ ends.Element → S.elements ≡ (T.bytes ∷ T.components) ∷ T.elements
      unfolding before
      element-by (Some ends.Segment) n i = absurd cc
      element-by (Some ends.Element) n i = rw n at more.elements
      element-by (Some ends.Component) n i = absurd cc
      element-by None n i = stuck n

      none-by : (g : Option Ending) → x ≡ g → (unwrap_or g ends.Component ≡ ends.Component → ⊥) → S.components ≡ []
      unfolding before
      none-by (Some ends.Segment) n j = rw n at more.components
      none-by (Some ends.Element) n j = rw n at more.components
      none-by (Some ends.Component) n j = absurd (j refl)
      none-by None n j = stuck n

      done-by : (g : Option Ending) → x ≡ g → unwrap_or g ends.Component ≡ ends.Segment → S.elements ≡ []
      unfolding before
      done-by (Some ends.Segment) n i = rw n at more.elements
      done-by (Some ends.Element) n i = absurd cc
      done-by (Some ends.Component) n i = absurd cc
      done-by None n i = stuck n

    inner-by : Dec (limit ≤ stop) → (k ≡ ends.Segment → ⊥) → stop < limit
    inner-by (yes h) i = absurd (i (s ∙ at-end y d stop limit h))
    inner-by (no h) i = omega arith

    pub stop-inner : (k ≡ ends.Segment → ⊥) → stop < limit
    stop-inner = inner-by (dec_le limit stop)

    pub stop-further : k ≡ ends.Component → (S.components ≡ T.bytes ∷ T.components) × (S.elements ≡ T.elements)
    stop-further i =
        let h = stop-inner (component-not_segment k i) in
        component-by h x refl (sym (kind h) ∙ i)

    pub stop-none : (k ≡ ends.Component → ⊥) → S.components ≡ []
    stop-none j = go (dec_le limit stop)
      where
        go : Dec (limit ≤ stop) → S.components ≡ []
        go (yes h) = (z.last h).components
        go (no h) = none-by (omega arith) x refl (λ i. j (kind (omega arith) ∙ i))

    pub stop_enters : k ≡ ends.Element → S.elements ≡ (T.bytes ∷ T.components) ∷ T.elements
    stop_enters i =
        let h = stop-inner (element-not_segment k i) in
        element-by h x refl (sym (kind h) ∙ i)

    pub stop-done : k ≡ ends.Segment → S.elements ≡ []
    stop-done i = go (dec_le limit stop)
      where
        go : Dec (limit ≤ stop) → S.elements ≡ []
        go (yes h) = (z.last h).elements
        go (no h) = done-by (omega arith) x refl (sym (kind (omega arith)) ∙ i)
