-- The bytes that end something or release the next one, a byte at a time and eight at once.
use Prim.Native.Nat.{ℕ, ◌+◌, ◌-◌, ◌≤◌, ◌<◌, min}
use mathlib.Core.Path.{◌≡◌, refl, ap}
use mathlib.Core.Bool.{Bool, true, false, cond, not, ◌||◌, true≢false, false≢true}
use mathlib.Core.List.{List}
use native.Mathlib.Omega.{arith}
use borrow.Author.Tests.{ne_eqb, eqb-false, leb-true, leb-false}
use lib.ListN.{length, get_or}
use Rattle.bytewise.specs.Search.{FirstThat}
use Rattle.bytewise.proofs.Searching.{first_before}
use lib.Dec.{eqb, leb}
use lib.Bits.{bit_or}
use Rattle.bytewise.specs.Eights.{on_from, flags}
use Rattle.cut.specs.declared.service.Syntax.{Syntax}
use Rattle.bytewise.proofs.Bytewise.{FirstOf, flags-or}
use Rattle.element.specs.Elements.{ending_of, stays}
use Rattle.element.specs.declared.endings.Ending.TheVariants as ends
use Rattle.std.specs.Prelude.{Some, None}
use Rattle.element.specs.Services.{is_service, Passed, Service}

-- ---- one byte

one_of : (a b c : Bool) → (a || b) || c ≡ not (stays (cond a (Some ends.Segment) (cond b (Some ends.Element) (cond c (Some ends.Component) None))))
unfolding stays
one_of true b c = refl
one_of false true c = refl
one_of false false true = refl
one_of false false false = refl

neither : (b r : Bool) → not b || r ≡ false → (b ≡ true) × (r ≡ false)
neither true r h = (refl, h)
neither false r h = absurd (true≢false h)

module _ (y : Syntax) (x : ℕ) where
  -- the four tests of it
  pub service_tests : ((eqb x y.terminator || eqb x y.element) || eqb x y.component) || eqb x y.release ≡ is_service y x
  unfolding is_service ending_of
  service_tests = ap (λ (b : Bool). b || eqb x y.release) (one_of (eqb x y.terminator) (eqb x y.element) (eqb x y.component))

  pub service_end : stays (ending_of y false x) ≡ false → is_service y x ≡ true
  unfolding is_service
  service_end f = rw f

  -- a byte that ends something, where it is not the release character
  pub service-ends : is_service y x ≡ true → (x ≡ y.release → ⊥) → stays (ending_of y false x) ≡ false
  unfolding is_service
  service-ends s n = go (stays (ending_of y false x)) (rw (ne_eqb x y.release n) at s)
    where
      go : (b : Bool) → not b || false ≡ true → b ≡ false
      go true h = absurd (false≢true h)
      go false h = refl

  module _ (p : is_service y x ≡ false) where
    pub plain-stays : stays (ending_of y false x) ≡ true
    unfolding is_service
    plain-stays = (neither _ _ p).0

    pub plain_no_mark : x ≡ y.release → ⊥
    unfolding is_service
    plain_no_mark = eqb-false x y.release (neither (stays (ending_of y false x)) (eqb x y.release) p).1

-- ---- eight bytes

-- those that are one of the four
pub service-flags
    : (y : Syntax) (x : ℕ → ℕ)
    → bit_or
    (bit_or (bit_or (flags (λ k. eqb (x k) y.terminator)) (flags (λ k. eqb (x k) y.element))) (flags (λ k. eqb (x k) y.component)))
    (flags (λ k. eqb (x k) y.release))
    ≡ flags (λ k. is_service y (x k))
service-flags y x =
    rw (
      flags-or (λ k. eqb (x k) y.terminator) (λ k. eqb (x k) y.element),
      flags-or (λ k. eqb (x k) y.terminator || eqb (x k) y.element) (λ k. eqb (x k) y.component),
      flags-or (λ k. (eqb (x k) y.terminator || eqb (x k) y.element) || eqb (x k) y.component) (λ k. eqb (x k) y.release),
    )
    (λ i. flags (λ k. service_tests y (x k) i))

-- ---- the bytes of a delivery

module _ (y : Syntax) (d : List ℕ) where
  pub passed_none : (i : ℕ) → Passed y d i i
  passed_none i = record { onward = omega arith; none = λ k a b. absurd (omega arith) }

  -- what the search finds
  pub service-first : (from limit r : ℕ) → from ≤ limit → limit ≤ length d → FirstThat (is_service y) d from (min limit (length d)) r
      → Service y d from limit r
  service-first from limit r h fits f =
      let g = first_before (is_service y) d from limit r fits f in
      let o : from ≤ r = omega (arith, g.onward) in
      record { passed = record { onward = o; none = g.before }; here = g.passes }

  module _ (from i : ℕ) (p : Passed y d from i) where
    pub passed_on : (r : ℕ) → Passed y d i r → Passed y d from r
    passed_on r q = record { onward = omega (arith, p.onward, q.onward); none = go }
      where
        pick : (k : ℕ) (b : Bool) → leb i k ≡ b → from ≤ k → k < r → is_service y (get_or d k 0) ≡ false
        pick k true e a l = q.none k (leb-true i k e) l
        pick k false e a l = p.none k a (leb-false i k e)

        go : (k : ℕ) → from ≤ k → k < r → is_service y (get_or d k 0) ≡ false
        go k = pick k (leb i k) refl

    pub service-here : (limit : ℕ) → is_service y (get_or d i 0) ≡ true → Service y d from limit i
    service-here limit s = record { passed = p; here = λ l. s }

    -- n bytes more
    passed-run : (n : ℕ) → ((k : ℕ) → k < n → is_service y (on_from d i k) ≡ false) → Passed y d from (i + n)
    passed-run n t = passed_on (i + n) (record { onward = omega arith; none = go })
      where
        go : (k : ℕ) → i ≤ k → k < i + n → is_service y (get_or d k 0) ≡ false
        go k a l =
            let z : i + (k - i) ≡ k = omega arith in
            rw z at (t (k - i) (omega arith))

    -- eight bytes, flagged in m
    module _ (m : ℕ) (f : m ≡ flags (λ k. is_service y (on_from d i k))) where
      pub service-eight : (limit j : ℕ) → FirstOf 8 (λ k. is_service y (on_from d i k)) j → Service y d from limit (i + j)
      service-eight limit j g = record { passed = passed-run j g.before; here = λ l. g.passes }
