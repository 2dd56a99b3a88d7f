-- The usual service characters, one test after the other.
use mathlib.Core.Path.{◌≡◌}
use mathlib.Core.Bool.{true, false}
use borrow.Author.Tests.{eq-eqb, ne_eqb, eqb-true}
use lib.Dec.{eqb}
use Rattle.cut.specs.declared.service.Syntax.{Syntax}
use Rattle.element.specs.Services.{usual_services}
use Rattle.bytewise.proofs.Booleans.{and_both}

module _ (y : Syntax) where
  pub services-first : (y.terminator ≡ 39 → ⊥) → false ≡ usual_services y
  unfolding usual_services
  services-first h = rw (ne_eqb y.terminator 39 h)

  module _ (h : y.terminator ≡ 39) where
    pub services_second : (y.element ≡ 43 → ⊥) → false ≡ usual_services y
    unfolding usual_services
    services_second k = rw (eq-eqb y.terminator 39 h, ne_eqb y.element 43 k)

    module _ (k : y.element ≡ 43) where
      pub services-third : (y.component ≡ 58 → ⊥) → false ≡ usual_services y
      unfolding usual_services
      services-third l = rw (eq-eqb y.terminator 39 h, eq-eqb y.element 43 k, ne_eqb y.component 58 l)

      pub services-last : y.component ≡ 58 → eqb y.release 63 ≡ usual_services y
      unfolding usual_services
      services-last l = rw (eq-eqb y.terminator 39 h, eq-eqb y.element 43 k, eq-eqb y.component 58 l)

  pub usual_are : usual_services y ≡ true → (y.terminator ≡ 39) × (y.element ≡ 43) × (y.component ≡ 58) × (y.release ≡ 63)
  unfolding usual_services
  usual_are u =
      let a = and_both (eqb y.terminator 39) _ u in
      let b = and_both (eqb y.element 43) _ a.1 in
      let c = and_both (eqb y.component 58) (eqb y.release 63) b.1 in
      (eqb-true y.terminator 39 a.0, eqb-true y.element 43 b.0, eqb-true y.component 58 c.0, eqb-true y.release 63 c.1)
