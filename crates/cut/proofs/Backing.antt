-- The place before the line breaks that end at a place: up to it, as up to the place, the bytes end where a segment ends, or do not.
use Prim.Native.Nat.{ℕ, zero, suc, ◌-◌, ◌≤◌, ◌<◌, min}
use mathlib.Core.Path.{◌≡◌, refl, sym, ◌∙◌, subst}
use mathlib.Core.Bool.{Bool, true, false, and-false}
use mathlib.Core.List.{List}
use native.Mathlib.Nat.{le_refl}
use native.Mathlib.Omega.{arith}
use lib.ListN.{length, get_or}
use lib.Dec.{ltb}
use borrow.Author.Tests.{ltb-true, ltb-false, lt-ltb, le-ltb}
use Rattle.cut.specs.declared.service.Syntax.{Syntax}
use Rattle.bytewise.specs.Bytes.{part}
use Rattle.cut.specs.Segments.{is_break, segments_of}
use Rattle.cut.specs.Calls.{back, back_at}
use Rattle.cut.specs.Fronts.{whole}
use Rattle.cut.proofs.cutting.Boundaries.{closed_break, closed-limit}

module _ (y : Syntax) (d : List ℕ) (f : ℕ) where
  -- one byte further back
  pub back_on : (i : ℕ) → f < i → is_break y (get_or d (i - 1) 0) ≡ true → back y d f i ≡ back y d f (i - 1)
  unfolding back
  back_on zero h k = absurd (omega arith)
  back_on (suc n) h k =
      let z : suc n - 1 ≡ n = omega arith in
      rw (lt-ltb f (suc n) h, z, rw z at k)

  pub back-here : (i : ℕ) → is_break y (get_or d (i - 1) 0) ≡ false → back y d f i ≡ i
  unfolding back
  back-here zero k = refl
  back-here (suc n) k =
      let z : suc n - 1 ≡ n = omega arith in
      rw (rw z at k, and-false (ltb f (suc n)))

  pub back-first : (i : ℕ) → i ≤ f → back y d f i ≡ i
  unfolding back
  back-first zero h = refl
  back-first (suc n) h = rw (le-ltb f (suc n) h)

  -- r is such a place
  pub record Back (at r : ℕ) : Type 0 where
    pub before : r ≤ at
    pub fits : r ≤ length d
    pub inside : f ≤ at → f ≤ length d → f ≤ r
    pub same : whole (segments_of y f (part f at d)) ≡ whole (segments_of y f (part f r d))
    pub stops : f < r → is_break y (get_or d (r - 1) 0) ≡ false

  backs_here : (i : ℕ) → i ≤ length d → (f < i → is_break y (get_or d (i - 1) 0) ≡ false) → Back i i
  backs_here i h k = record { before = le_refl i; fits = h; inside = λ a b. a; same = refl; stops = k }

  backs_on : (i r : ℕ) → f < i → i ≤ length d → is_break y (get_or d (i - 1) 0) ≡ true → Back (i - 1) r → Back i r
  backs_on i r h l k b =
      let o = b.before in
      record {
        before = omega arith;
        fits = b.fits;
        inside = λ p q. b.inside (omega arith) q;
        same = closed_break y d f i h l k ∙ b.same;
        stops = b.stops;
      }

  backs_by : (i : ℕ) → i ≤ length d → Back i (back y d f i)
  backs_by zero h = subst (Back zero) (sym (back-first zero (omega arith))) (backs_here zero h (λ l. absurd (omega arith)))
  backs_by (suc n) h =
      go (ltb f (suc n)) (is_break y (get_or d (suc n - 1) 0)) refl refl (subst (λ (i : ℕ). Back i (back y d f i)) less (backs_by n (omega arith)))
    where
      less : n ≡ suc n - 1
      less = omega arith

      go
          : (l c : Bool) → ltb f (suc n) ≡ l → is_break y (get_or d (suc n - 1) 0) ≡ c → Back (suc n - 1) (back y d f (suc n - 1))
          → Back (suc n) (back y d f (suc n))
      go false c e i ih =
          let k = ltb-false f (suc n) e in
          subst (Back (suc n)) (sym (back-first (suc n) k)) (backs_here (suc n) h (λ l. absurd (omega arith)))
      go true false e i ih = subst (Back (suc n)) (sym (back-here (suc n) i)) (backs_here (suc n) h (λ l. i))
      go true true e i ih =
          let k = ltb-true f (suc n) e in
          subst (Back (suc n)) (sym (back_on (suc n) k i)) (backs_on (suc n) _ k h i ih)

  pub backs : (at r : ℕ) → r ≡ back_at y d f at → Back at r
  backs at r e =
      let b = backs_by (min at (length d)) (omega arith) in
      let o = b.before in
      subst (Back at) (sym e)
      (record {
        before = omega arith;
        fits = b.fits;
        inside = λ p q. b.inside (omega arith) q;
        same = sym (closed-limit y d f at (min at (length d)) refl) ∙ b.same;
        stops = b.stops;
      })
