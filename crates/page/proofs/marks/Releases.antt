-- The release character, and a component past its release marks.
use Prim.Native.Nat.{ℕ, ◌+◌, ◌-◌, ◌≤◌, ◌<◌}
use mathlib.Core.Path.{◌≡◌, refl, sym, ap, ◌∙◌}
use mathlib.Core.Bool.{Bool, true, false, not, true≢false}
use mathlib.Core.List.{List}
use native.Mathlib.Omega.{arith}
use lib.ListN.{length, get_or}
use borrow.Author.Tests.{eq-eqb, ne_eqb}
use Rattle.cut.specs.Segments.{frees}
use Rattle.cut.specs.declared.service.Syntax.{Syntax}
use Rattle.element.specs.Components.{extent_of}
use Rattle.element.specs.Elements.{ending_of, stays, releases}
use Rattle.element.specs.Services.{Service}
use Rattle.element.specs.declared.endings.Ending.{Ending}
use Rattle.element.specs.declared.endings.Ending.TheVariants as ends
use Rattle.std.specs.Prelude.{Option, Some, None, is_some}
use Rattle.element.specs.declared.scan.Extent.{Extent}
use Rattle.element.proofs.ComponentFace.{extent-stop, ending_segment}
use Rattle.element.proofs.MarkFace.{mark-ends, mark-counts}

-- ---- the release character

-- it releases the next byte where it ends nothing
module _ (y : Syntax) where
  ended : (g : Ending) → ending_of y false y.release ≡ Some g → releases y false y.release ≡ false
  unfolding releases stays
  ended ends.Segment e = rw e
  ended ends.Element e = rw e
  ended ends.Component e = rw e

  unended : ending_of y false y.release ≡ None → releases y false y.release ≡ true
  unfolding releases stays frees
  unended e =
      let n : y.release ≡ y.terminator → ⊥ = λ t. none_some (sym e ∙ ending_segment y y.release t) in
      rw (e, ne_eqb y.release y.terminator n, eq-eqb y.release y.release refl)
    where
      none_some : {g : Ending} → None ≡ Some g → ⊥
      none_some h = cc

  pub mark_alone : (r : Bool) → is_some (ending_of y false y.release) ≡ not r → r ≡ releases y false y.release
  mark_alone r h = go (ending_of y false y.release) refl r h
    where
      go : (g : Option Ending) → ending_of y false y.release ≡ g → (r : Bool) → is_some g ≡ not r → r ≡ releases y false y.release
      go (Some g) e true k = absurd (true≢false k)
      go (Some g) e false k = sym (ended g e)
      go None e true k = sym (unended e)
      go None e false k = absurd (true≢false (sym k))

-- ---- the marks of a component

-- the component that begins at the place a goes on at the place `at`, and of its bytes up to there so many are removed
pub record Past (y : Syntax) (d : List ℕ) (a limit at removed : ℕ) : Type 0 where
  pub within : at ≤ limit
  pub onward : a + removed ≤ at
  pub ends : (extent_of y d at limit).end ≡ (extent_of y d a limit).end
  pub counts : at - a - removed + (extent_of y d at limit).length ≡ (extent_of y d a limit).length

pub past_first : (y : Syntax) (d : List ℕ) (a limit : ℕ) → a ≤ limit → Past y d a limit a 0
past_first y d a limit h = record { within = h; onward = omega arith; ends = refl; counts = omega arith }

module _
    (y : Syntax) (d : List ℕ) (a limit : ℕ) (fits : limit ≤ length d) (at removed : ℕ) (g : Past y d a limit at removed)
    (end : ℕ) (found : Service y d at limit end) where
  -- it ends there
  pub past-found : end < limit → (get_or d end 0 ≡ y.release → ⊥) → record { end = end; length = end - a - removed } ≡ extent_of y d a limit
  past-found l n = λ i. record { end = ends i; length = counts i }
    where
      stop : record { end = end; length = end - at } ≡ extent_of y d at limit
      stop = extent-stop y d at limit limit (omega arith) end found l n

      ends : end ≡ (extent_of y d a limit).end
      ends = ap (λ (x : Extent). x.end) stop ∙ g.ends

      counts : end - a - removed ≡ (extent_of y d a limit).length
      counts =
          let m : end - at ≡ (extent_of y d at limit).length = ap (λ (x : Extent). x.length) stop in
          omega (arith, g.counts, g.onward, found.passed.onward)

  -- a release mark stands there
  pub past-mark : get_or d end 0 ≡ y.release → end + 2 ≤ limit → releases y false y.release ≡ true → Past y d a limit (end + 2) (removed + 1)
  past-mark m h f =
      let b : releases y false (get_or d end 0) ≡ true = rw m f in
      let o = mark-ends y d at limit end fits found h b in
      let c = mark-counts y d at limit end fits found h b in
      let k = found.passed.onward in
      record { within = h; onward = omega (arith, g.onward); ends = o ∙ g.ends; counts = omega (arith, g.counts, g.onward) }
