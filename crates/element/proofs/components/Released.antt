-- Where the release mark is no separator, a byte releases the next one here exactly if it does so in cutting.
use Prim.Native.Nat.{ℕ}
use mathlib.Core.Path.{◌≡◌, refl, sym, ◌∙◌}
use mathlib.Core.Bool.{Bool, true, false, cond, not, ◌&&◌}
use borrow.Author.Tests.{eqb-true, ne_eqb}
use lib.Dec.{eqb}
use Rattle.cut.specs.Segments.{frees}
use Rattle.cut.specs.declared.service.Syntax.{Syntax}
use Rattle.element.specs.Elements.{ending_of, stays, releases}
use Rattle.element.specs.declared.endings.Ending.TheVariants as ends
use Rattle.std.specs.Prelude.{Some, None}

released_by
    : (a b c f : Bool) → (b ≡ true → f ≡ false) → (c ≡ true → f ≡ false)
    → stays (cond a (Some ends.Segment) (cond b (Some ends.Element) (cond c (Some ends.Component) None))) && (not a && f) ≡ not a && f
unfolding stays
released_by true b c f h k = refl
released_by false true c f h k = sym (h refl)
released_by false false true f h k = sym (k refl)
released_by false false false f h k = refl

other : (x z w : ℕ) → (w ≡ z → ⊥) → eqb x z ≡ true → eqb x w ≡ false
other x z w n h = ne_eqb x w (λ e. n (sym e ∙ eqb-true x z h))

pub releases-frees
    : (y : Syntax) → (y.release ≡ y.element → ⊥) → (y.release ≡ y.component → ⊥) → (r : Bool) (x : ℕ) → releases y r x ≡ frees y r x
unfolding releases ending_of stays frees
releases-frees y e c true x = refl
releases-frees y e c false x =
    released_by (eqb x y.terminator) (eqb x y.element) (eqb x y.component) (eqb x y.release)
    (other x y.element y.release e) (other x y.component y.release c)
