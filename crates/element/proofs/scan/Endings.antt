-- What a byte ends, by the tests on it in their order.
use Prim.Native.Nat.{ℕ, ◌≤◌, ◌<◌, min}
use mathlib.Core.Path.{◌≡◌, refl, ap, ◌∙◌}
use mathlib.Core.Bool.{Bool, true, false, cond, not, false≢true}
use mathlib.Core.List.{List}
use native.Mathlib.Decide.{dec_le}
use native.Mathlib.Omega.{arith}
use borrow.Author.Tests.{eq-eqb, ne_eqb, le-leb, lt-leb}
use lib.Dec.{eqb}
use lib.ListN.{length, get_or}
use Rattle.cut.specs.declared.service.Syntax.{Syntax}
use Rattle.element.specs.Elements.{ending_of, ending_at, stays}
use Rattle.element.specs.declared.endings.Ending.{Ending}
use Rattle.element.specs.declared.endings.Ending.TheVariants as ends
use Rattle.std.specs.Prelude.{Option, Some, None, unwrap_or, is_some}

pub stays-nothing : (g : Option Ending) → stays g ≡ true → g ≡ None
unfolding stays
stays-nothing (Some ends.Segment) h = absurd (false≢true h)
stays-nothing (Some ends.Element) h = absurd (false≢true h)
stays-nothing (Some ends.Component) h = absurd (false≢true h)
stays-nothing None h = refl

-- by the test whether something ends
pub stays-is : (g : Option Ending) (b : Bool) → b ≡ is_some g → stays g ≡ not b
unfolding stays
stays-is (Some g) b e = rw e
stays-is None b e = rw e

module _ (y : Syntax) (x : ℕ) where
  pub ending_segment : x ≡ y.terminator → ending_of y false x ≡ Some ends.Segment
  unfolding ending_of
  ending_segment t = rw (eq-eqb x y.terminator t)

  pub ending_element : (x ≡ y.terminator → ⊥) → x ≡ y.element → ending_of y false x ≡ Some ends.Element
  unfolding ending_of
  ending_element t e = rw (ne_eqb x y.terminator t, eq-eqb x y.element e)

  pub ending_component : (x ≡ y.terminator → ⊥) → (x ≡ y.element → ⊥) → x ≡ y.component → ending_of y false x ≡ Some ends.Component
  unfolding ending_of
  ending_component t e c = rw (ne_eqb x y.terminator t, ne_eqb x y.element e, eq-eqb x y.component c)

  pub ending_nothing
      : (x ≡ y.terminator → ⊥) → (x ≡ y.element → ⊥) → (x ≡ y.component → ⊥) → ending_of y false x ≡ None
  unfolding ending_of
  ending_nothing t e c = rw (ne_eqb x y.terminator t, ne_eqb x y.element e, ne_eqb x y.component c)

-- what ends where a component does, by the tests of its place and of the byte there
module _ (y : Syntax) (d : List ℕ) (n e : ℕ) where
  pub at-end : e ≤ n → ending_at y d n e ≡ ends.Segment
  unfolding ending_at
  at-end h = rw (le-leb (min e (length d)) n (omega arith))

  at-inside : (ending_at y d n e ≡ ends.Segment → ⊥) → n < e
  at-inside f = go (dec_le e n)
    where
      go : Dec (e ≤ n) → n < e
      go (yes h) = absurd (f (at-end h))
      go (no h) = omega arith

  pub inside-element : ending_at y d n e ≡ ends.Element → n < e
  inside-element g = at-inside (λ z. cc)

  pub inside-component : ending_at y d n e ≡ ends.Component → n < e
  inside-component g = at-inside (λ z. cc)

  module _ (h : n < e) (fits : e ≤ length d) where
    pub at-byte : ending_at y d n e ≡ unwrap_or (ending_of y false (get_or d n 0)) ends.Component
    unfolding ending_at
    at-byte = rw (lt-leb (min e (length d)) n (omega arith))

    pub at-segment : get_or d n 0 ≡ y.terminator → ending_at y d n e ≡ ends.Segment
    at-segment t = at-byte ∙ ap (λ (g : Option Ending). unwrap_or g ends.Component) (ending_segment y _ t)

    pub at-element : (get_or d n 0 ≡ y.terminator → ⊥) → get_or d n 0 ≡ y.element → ending_at y d n e ≡ ends.Element
    at-element t x = at-byte ∙ ap (λ (g : Option Ending). unwrap_or g ends.Component) (ending_element y _ t x)

    pub at-component : (get_or d n 0 ≡ y.terminator → ⊥) → (get_or d n 0 ≡ y.element → ⊥) → ending_at y d n e ≡ ends.Component
    unfolding ending_of
    at-component t x = at-byte ∙ rw (ne_eqb (get_or d n 0) y.terminator t, ne_eqb (get_or d n 0) y.element x) (go (eqb (get_or d n 0) y.component))
      where
        go : (b : Bool) → unwrap_or (cond b (Some ends.Component) None) ends.Component ≡ ends.Component
        go true = refl
        go false = refl
