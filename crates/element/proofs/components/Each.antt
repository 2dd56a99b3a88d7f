-- What holds of each component of a list.
use Prim.Native.Nat.{ℕ}
use mathlib.Core.Bool.{Bool, true, false, cond, ◌&&◌}
use mathlib.Core.List.{List, [], ◌∷◌, ◌++◌}
use lib.Dec.{eqb}
use Rattle.element.specs.Components.{Component, end_of, span_in}
use Rattle.element.specs.declared.components.Span.{Span}

pub data Each (P : Component → Type 0) : List Component → Type 0 where
  none : Each P []
  more : {k : Component} {ks : List Component} → P k → Each P ks → Each P (k ∷ ks)

pub each_append : (P : Component → Type 0) (ks js : List Component) → Each P ks → Each P js → Each P (ks ++ js)
each_append P [] js none q = q
each_append P (k ∷ ks) js (more p ps) q = more p (each_append P ks js ps q)

cond_either : (P : Span → Type 0) (b : Bool) (s t : Span) → P s → P t → P (cond b s t)
cond_either P true s t p q = p
cond_either P false s t p q = q

-- what holds of the place of each component, and of the place of a missing one, holds of the place that a search gives
pub each_span
    : (P : Span → Type 0) (a e c : ℕ) (ks : List Component) → P (record { start = a; end = a })
    → Each (λ k. P (record { start = k.start; end = end_of k })) ks → P (span_in a e c ks)
unfolding span_in
each_span P a e c [] p none = p
each_span P a e c (k ∷ ks) p (more q qs) = cond_either P (eqb k.element e && eqb k.component c) _ (span_in a e c ks) q (each_span P a e c ks p qs)

-- what follows from two things at each component
pub each_both : (P Q R : Component → Type 0) → ((k : Component) → P k → Q k → R k) → (ks : List Component) → Each P ks → Each Q ks → Each R ks
each_both P Q R f [] none none = none
each_both P Q R f (k ∷ ks) (more p ps) (more q qs) = more (f k p q) (each_both P Q R f ks ps qs)
