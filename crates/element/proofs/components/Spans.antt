-- The part of the delivery that is one component: its bytes, and where it lies.
use Prim.Native.Nat.{ℕ, ◌≤◌, min, max}
use mathlib.Core.Path.{◌≡◌, sym, ◌∙◌}
use mathlib.Core.Bool.{Bool, true, false, cond, ◌&&◌}
use mathlib.Core.List.{List, [], ◌∷◌}
use native.Mathlib.Omega.{arith}
use lib.ListN.{length}
use lib.Dec.{eqb}
use Rattle.bytewise.specs.Bytes.{part}
use Rattle.cut.specs.declared.service.Syntax.{Syntax}
use Rattle.bytewise.proofs.Parts.{part_none}
use Rattle.element.specs.Elements.{component}
use Rattle.element.specs.Components.{Component, components, span_in, component_at}
use Rattle.element.specs.declared.components.Span.{Span}
use Rattle.element.proofs.components.Each.{Each, none, more, each_both, each_span}
use Rattle.element.proofs.components.Lookups.{bytes_in, bytes-component}
use Rattle.element.proofs.components.Places.{Placed, components_placed, components_from}

span-by : (d : List ℕ) (b : Bool) (s t : Span) (u v : List ℕ) → part s.start s.end d ≡ u → part t.start t.end d ≡ v
    → part (cond b s t).start (cond b s t).end d ≡ cond b u v
span-by d true s t u v h k = h
span-by d false s t u v h k = k

-- a search for the place and a search for the bytes find the same component
span-bytes
    : (d : List ℕ) (z a e c : ℕ) (ks : List Component) → Each (Placed d z) ks → part (span_in a e c ks).start (span_in a e c ks).end d ≡ bytes_in e c ks
unfolding span_in bytes_in
span-bytes d z a e c [] none = part_none d a a (omega arith)
span-bytes d z a e c (k ∷ ks) (more h p) =
    span-by d (eqb k.element e && eqb k.component c) _ (span_in a e c ks) k.bytes (bytes_in e c ks) (sym h.bytes) (span-bytes d z a e c ks p)

-- a part that lies between two places
pub record Within (a z : ℕ) (s : Span) : Type 0 where
  pub from : a ≤ s.start
  pub ordered : s.start ≤ s.end
  pub to : s.end ≤ z

module _ (y : Syntax) (d : List ℕ) (start end e c : ℕ) where
  pub component_bytes : part (component_at y d start end e c).start (component_at y d start end e c).end d ≡ component y (part start end d) e c
  unfolding component_at
  component_bytes =
      span-bytes d (min end (length d)) start e c (components y start (part start end d)) (components_placed y d start end)
      ∙ bytes-component y start (part start end d) e c

  pub component-within : Within start (max start (min end (length d))) (component_at y d start end e c)
  unfolding component_at
  component-within =
      each_span (Within start (max start (min end (length d)))) start e c (components y start (part start end d))
      (record { from = omega arith; ordered = omega arith; to = omega arith })
      (each_both _ _ _ (λ k f p. let w = p.within in record { from = f; ordered = omega arith; to = omega arith }) _
      (components_from y start (part start end d)) (components_placed y d start end))
