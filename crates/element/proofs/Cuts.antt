-- Reading ends where cutting ends: what stands in a delivery from a segment's start on is what stands in the segment. So its components are told without
-- looking for its end first.
use Prim.Native.Nat.{ℕ, suc, ◌-◌, ◌≤◌, ◌<◌}
use mathlib.Core.Path.{◌≡◌, refl, sym, ap, subst, ◌∙◌}
use mathlib.Core.Bool.{Bool, true, false, cond, not, ◌&&◌, false≢true}
use mathlib.Core.List.{List, [], ◌∷◌}
use native.Mathlib.Nat.{le_refl}
use native.Mathlib.Omega.{arith}
use borrow.Author.Tests.{eqb-true, eqb-false}
use lib.ListN.{length, take, drop}
use lib.Dec.{eqb}
use Rattle.bytewise.specs.Bytes.{part}
use Rattle.cut.specs.Calls.{some_cut, cut_from}
use Rattle.cut.specs.Segments.{Segment, ends, frees, join, segments_from}
use Rattle.cut.specs.declared.service.Syntax.{Syntax}
use Rattle.cut.proofs.First.{Cutting, cutting}
use Rattle.bytewise.proofs.Parts.{length_part}
use Rattle.element.specs.Elements.{ending_of, stays, releases, listed, before, split_from, elements, component}
use Rattle.element.specs.declared.endings.Ending.TheVariants as ends
use Rattle.std.specs.Prelude.{Some, None}
use Rattle.element.specs.Components.{components, component_at}
use Rattle.bytewise.proofs.Limits.{part_out, take_part}
use Rattle.element.proofs.components.Released.{releases-frees}
use Rattle.element.proofs.components.Whole.{end_is}

-- a release mark that is a separator too releases nothing
mark-element : (a b c : Bool) → stays (cond a (Some ends.Segment) (cond b (Some ends.Element) (cond c (Some ends.Component) None))) && (not a && b) ≡ false
unfolding stays
mark-element true b c = refl
mark-element false true c = refl
mark-element false false true = refl
mark-element false false false = refl

mark-component : (a b c : Bool) → stays (cond a (Some ends.Segment) (cond b (Some ends.Element) (cond c (Some ends.Component) None))) && (not a && c) ≡ false
unfolding stays
mark-component true b c = refl
mark-component false true c = refl
mark-component false false true = refl
mark-component false false false = refl

never_element : (y : Syntax) → y.release ≡ y.element → (r : Bool) (x : ℕ) → releases y r x ≡ false
unfolding releases ending_of stays frees
never_element y h true x = refl
never_element y h false x = rw h (mark-element (eqb x y.terminator) (eqb x y.element) (eqb x y.component))

never_component : (y : Syntax) → y.release ≡ y.component → (r : Bool) (x : ℕ) → releases y r x ≡ false
unfolding releases ending_of stays frees
never_component y h true x = refl
never_component y h false x = rw h (mark-component (eqb x y.terminator) (eqb x y.element) (eqb x y.component))

-- the first of these segments is read as all the bytes xs are; q: the first of them is released in reading
abbrev ReadAlike : Syntax → Bool → List ℕ → List Segment → Type 0
ReadAlike y q xs [] = xs ≡ []
ReadAlike y q xs (s ∷ ss) = split_from y q xs ≡ split_from y q s.bytes

-- Q: what reading and cutting take for released at one place. Where cutting takes nothing for released, reading does not
module _
    (y : Syntax) (Q : Bool → Bool → Type 0) (shut : (q : Bool) → Q q false → q ≡ false)
    (on : (q r : Bool) (x : ℕ) → Q q r → Q (releases y q x) (frees y r x))
  where
    ends-both : (q r : Bool) (x : ℕ) → Q q r → ends y r x ≡ true → ending_of y q x ≡ Some ends.Segment
    unfolding ends
    ends-both q true x k h = absurd (false≢true h)
    ends-both q false x k h = rw (shut q k) (end_is y false x h).0

    alike_join
        : (b : Bool) (p : ℕ) (q r : Bool) (x : ℕ) (xs : List ℕ) (ss : List Segment) → ends y r x ≡ b → Q q r → ReadAlike y (releases y q x) xs ss
        → ReadAlike y q (x ∷ xs) (join b p x ss)
    unfolding join split_from before
    alike_join true p q r x xs ss e k h = rw (ends-both q r x k e)
    alike_join false p q r x xs [] e k h = rw h
    alike_join false p q r x xs (s ∷ ss) e k h = rw h

    alike : (p : ℕ) (q r : Bool) (xs : List ℕ) → Q q r → ReadAlike y q xs (segments_from y p r xs)
    unfolding segments_from
    alike p q r [] k = refl
    alike p q r (x ∷ xs) k = alike_join (ends y r x) p q r x xs _ refl k (alike (suc p) (releases y q x) (frees y r x) xs (on q r x k))

-- a mark releases in reading where it does in cutting, or nowhere
read_alike : (y : Syntax) (p : ℕ) (xs : List ℕ) → ReadAlike y false xs (segments_from y p false xs)
read_alike y p xs = go (eqb y.release y.element) refl (eqb y.release y.component) refl
  where
    never : ((r : Bool) (x : ℕ) → releases y r x ≡ false) → ReadAlike y false xs (segments_from y p false xs)
    never n = alike y (λ (q r : Bool). q ≡ false) (λ q h. h) (λ q r x h. n q x) p false false xs refl

    go : (a : Bool) → eqb y.release y.element ≡ a → (b : Bool) → eqb y.release y.component ≡ b → ReadAlike y false xs (segments_from y p false xs)
    go true e b c = never (never_element y (eqb-true _ _ e))
    go false e true c = never (never_component y (eqb-true _ _ c))
    go false e false c =
        alike y (λ (q r : Bool). q ≡ r) (λ q h. h) (λ q r x h. rw h (releases-frees y (eqb-false _ _ e) (eqb-false _ _ c) r x)) p false false xs refl

pub elements-some : (y : Syntax) (s : List ℕ) → 0 < length s → elements y s ≡ listed (split_from y false s)
unfolding elements
elements-some y [] h = absurd (omega arith)
elements-some y (x ∷ xs) h = refl

-- the segment from a on ends at e
module _ (y : Syntax) (d : List ℕ) (a s e : ℕ) (p : Bool) (h : cut_from y d a false ≡ some_cut s e p) where
  abbrev q : Cutting y d a false s e p
  q = cutting y d a false s e p h

  split_cut : split_from y false (part a (length d) d) ≡ split_from y false (part a e d)
  split_cut = rw (part_out d a (length d) (le_refl (length d))) (subst (ReadAlike y false (drop a d)) q.list (read_alike y a (drop a d)))

  pub elements_cut : elements y (part a (length d) d) ≡ elements y (part a e d)
  elements_cut =
      let some = q.some in
      let fits = q.fits in
      let n : 0 < length (part a (length d) d) = rw (length_part d a (length d) (le_refl (length d))) (omega arith) in
      let m : 0 < length (part a e d) = rw (length_part d a e fits) (omega arith) in
      elements-some y _ n ∙ ap listed split_cut ∙ sym (elements-some y _ m)

  pub component_cut : (x c : ℕ) → component y (part a (length d) d) x c ≡ component y (part a e d) x c
  unfolding component
  component_cut x c = rw elements_cut

  pub components_cut : components y a (part a (length d) d) ≡ components y a (part a e d)
  unfolding components
  components_cut = rw elements_cut

  pub component-at_cut : (x c : ℕ) → component_at y d a (length d) x c ≡ component_at y d a e x c
  unfolding component_at
  component-at_cut x c = rw components_cut

  -- and so are as many bytes as it has
  pub take_cut : (n : ℕ) → n ≤ e - a → take n (part a (length d) d) ≡ take n (part a e d)
  take_cut n k =
      let fits = q.fits in
      take_part d a (length d) n (omega arith) ∙ sym (take_part d a e n k)
