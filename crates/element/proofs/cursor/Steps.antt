-- The first component of a split with its numbers and place, and the rest.
use Prim.Native.Nat.{ℕ, ◌+◌}
use mathlib.Core.Path.{◌≡◌}
use mathlib.Core.List.{[], ◌∷◌}
use native.Mathlib.Omega.{arith}
use lib.ListN.{length}
use Rattle.element.specs.Elements.{Split, listed}
use Rattle.element.specs.Components.{Component, in_element, in_elements, width}
use Rattle.element.specs.Cursors.{rest_from}
use Rattle.element.proofs.scan.Splits.{Last}

-- the first component of s, with its numbers and place
abbrev pub first : ℕ → ℕ → ℕ → Split → Component
first e c p s = record { element = e; component = c; start = p; bytes = s.bytes }

module _ (e c p : ℕ) (s : Split) where
  pub rest-last : Last s → rest_from e c p s ≡ first e c p s ∷ []
  unfolding rest_from in_element in_elements width
  rest-last q = rw (q.components, q.elements)

  pub rest-element
      : (t : Split) → s.components ≡ [] → s.elements ≡ listed t → rest_from e c p s ≡ first e c p s ∷ rest_from (e + 1) 0 (p + length s.bytes + 1) t
  unfolding rest_from in_element in_elements width
  rest-element t q r =
      let z : p + (length s.bytes + 1 + 0) ≡ p + length s.bytes + 1 = omega arith in
      rw (q, r, z)

  pub rest-component
      : (t : Split) → s.components ≡ t.bytes ∷ t.components → s.elements ≡ t.elements
      → rest_from e c p s ≡ first e c p s ∷ rest_from e (c + 1) (p + length s.bytes + 1) t
  unfolding rest_from in_element in_elements width
  rest-component t q r =
      let z : p + (length s.bytes + 1 + (length t.bytes + 1 + width t.components))
      ≡ p + length s.bytes + 1 + (length t.bytes + 1 + width t.components) = omega arith in
      rw (q, r, z)
