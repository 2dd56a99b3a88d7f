-- No byte of a segment is lost: joined again, its components and its terminator are the segment as cutting has it.
use Prim.Native.Nat.{ℕ, suc}
use mathlib.Core.Path.{◌≡◌, refl, sym, ap, subst}
use mathlib.Core.Bool.{Bool, true, false, cond, false≢true}
use mathlib.Core.List.{List, [], ◌∷◌, ◌++◌}
use borrow.Author.Tests.{eqb-true}
use lib.Dec.{eqb}
use Rattle.cut.specs.Segments.{Segment, ends, frees, join, segments_from}
use Rattle.cut.specs.declared.service.Syntax.{Syntax}
use Rattle.element.specs.Elements.{ending_of, releases, elements}
use Rattle.element.specs.declared.endings.Ending.TheVariants as ends
use Rattle.std.specs.Prelude.{Some, None}
use Rattle.element.proofs.scan.Endings.{ending_segment}
use Rattle.element.proofs.components.Joined.{joined, keep, until_end, elements-joined}
use Rattle.element.proofs.components.Released.{releases-frees}

-- the terminator of a segment; a piece has none
unfoldable pub last_of : Syntax → Segment → List ℕ
last_of y s = cond s.piece [] (y.terminator ∷ [])

-- a byte that cutting takes for the end is the terminator and ends the segment here too; any other is kept
pub end_is : (y : Syntax) (r : Bool) (x : ℕ) → ends y r x ≡ true → (ending_of y r x ≡ Some ends.Segment) × (x ≡ y.terminator)
unfolding ends
end_is y true x h = absurd (false≢true h)
end_is y false x h =
    let t = eqb-true x y.terminator h in
    (ending_segment y x t, t)

keep-by : (b c : Bool) (x : ℕ) (xs : List ℕ) → keep (cond b (Some ends.Element) (cond c (Some ends.Component) None)) x xs ≡ x ∷ xs
unfolding keep
keep-by true c x xs = refl
keep-by false true x xs = refl
keep-by false false x xs = refl

kept : (y : Syntax) (r : Bool) (x : ℕ) (xs : List ℕ) → ends y r x ≡ false → keep (ending_of y r x) x xs ≡ x ∷ xs
unfolding ends ending_of keep
kept y true x xs h = refl
kept y false x xs h = rw h (keep-by (eqb x y.element) (eqb x y.component) x xs)

-- the first of these segments is whole, read from its first byte on, which is released or not, as r says
abbrev HeadWhole : Syntax → Bool → List Segment → Type 0
HeadWhole y r [] = Unit {0}
HeadWhole y r (s ∷ ss) = until_end y r s.bytes ++ last_of y s ≡ s.bytes

module _ (y : Syntax) (ne : y.release ≡ y.element → ⊥) (nc : y.release ≡ y.component → ⊥) where
  whole_join : (b : Bool) (p : ℕ) (r : Bool) (x : ℕ) (ss : List Segment) → ends y r x ≡ b → HeadWhole y (frees y r x) ss → HeadWhole y r (join b p x ss)
  unfolding join until_end keep last_of
  whole_join true p r x ss e h =
      let q = end_is y r x e in
      rw q.0 (ap (λ (z : ℕ). z ∷ []) (sym q.1))
  whole_join false p r x [] e h = rw (kept y r x [] e)
  whole_join false p r x (s ∷ ss) e h =
      rw (kept y r x (until_end y (releases y r x) s.bytes) e, releases-frees y ne nc r x) (ap (λ (l : List ℕ). x ∷ l) h)

  head-whole : (p : ℕ) (r : Bool) (xs : List ℕ) → HeadWhole y r (segments_from y p r xs)
  unfolding segments_from
  head-whole p r [] = tt
  head-whole p r (x ∷ xs) = whole_join (ends y r x) p r x (segments_from y (suc p) (frees y r x) xs) refl (head-whole (suc p) (frees y r x) xs)

  pub segment-joined
      : (p : ℕ) (xs : List ℕ) (s : Segment) (ss : List Segment) → segments_from y p false xs ≡ s ∷ ss
      → joined y (elements y s.bytes) ++ last_of y s ≡ s.bytes
  segment-joined p xs s ss h = rw (elements-joined y s.bytes) (subst (HeadWhole y false) h (head-whole p false xs))
