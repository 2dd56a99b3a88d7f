-- The end of a component, a byte at a time.
use Prim.Native.Nat.{ℕ, ◌+◌, ◌≤◌, ◌<◌}
use mathlib.Core.Path.{◌≡◌, refl, ap, ◌∙◌}
use mathlib.Core.Bool.{Bool, true, false, true≢false}
use mathlib.Core.List.{List, [], ◌∷◌}
use Rattle.bytewise.proofs.Limits.{part_out}
use native.Mathlib.Nat.{le_refl, zero-add, add-zero}
use native.Mathlib.Omega.{arith}
use lib.ListN.{length, get_or}
use Rattle.bytewise.specs.Bytes.{part}
use Rattle.cut.specs.Segments.{frees}
use Rattle.cut.specs.declared.service.Syntax.{Syntax}
use Rattle.bytewise.proofs.Parts.{part_none, part-next}
use Rattle.element.proofs.scan.Endings.{stays-nothing}
use Rattle.element.specs.Elements.{ending_of, stays, releases, Split, before, split_from, elements, component}
use Rattle.element.specs.declared.endings.Ending.{Ending}
use Rattle.element.specs.declared.endings.Ending.TheVariants as ends
use Rattle.std.specs.Prelude.{Option, Some, None}

-- the end of the component whose byte at i is released or not, as r says, in the part of d up to e
unfoldable pub end_from : Syntax → List ℕ → ℕ → Bool → ℕ → ℕ
end_from y d e r i = i + length (split_from y r (part i e d)).bytes

pub first-component : (y : Syntax) (s : List ℕ) → component y s 0 0 ≡ (split_from y false s).bytes
unfolding component elements split_from
first-component y [] = refl
first-component y (x ∷ xs) = refl

pub end_whole : (y : Syntax) (d : List ℕ) (e i : ℕ) → end_from y d e false i ≡ i + length (component y (part i e d) 0 0)
unfolding end_from
end_whole y d e i = rw first-component

-- the same of all of some bytes
pub end-first : (y : Syntax) (s : List ℕ) → end_from y s (length s) false 0 ≡ length (component y s 0 0)
end-first y s =
    let w = part_out s 0 (length s) (le_refl (length s)) in
    end_whole y s (length s) 0 ∙ ap (λ (l : List ℕ). 0 + length (component y l 0 0)) w ∙ zero-add _

pub bytes-none : (g : Option Ending) (x : ℕ) (s : Split) → stays g ≡ false → (before g x s).bytes ≡ []
unfolding stays before
bytes-none (Some ends.Segment) x s h = refl
bytes-none (Some ends.Element) x s h = refl
bytes-none (Some ends.Component) x s h = refl
bytes-none None x s h = absurd (true≢false h)

module _ (y : Syntax) (d : List ℕ) (e : ℕ) (r : Bool) (i : ℕ) where
  pub end_past : e ≤ i → end_from y d e r i ≡ i
  unfolding end_from split_from
  end_past h = rw (part_none d i e h) (add-zero i)

  pub end_here : i < e → e ≤ length d → stays (ending_of y r (get_or d i 0)) ≡ false → end_from y d e r i ≡ i
  unfolding end_from split_from
  end_here h k f = rw (part-next d i e h k, bytes-none _ _ _ f) (add-zero i)

  pub end_next
      : (r' : Bool) → i < e → e ≤ length d → stays (ending_of y r (get_or d i 0)) ≡ true → r' ≡ frees y r (get_or d i 0)
      → end_from y d e r i ≡ end_from y d e r' (i + 1)
  unfolding end_from split_from releases before stays
  end_next r' h k t f = rw (f, part-next d i e h k, stays-nothing (ending_of y r (get_or d i 0)) t) (omega arith)
