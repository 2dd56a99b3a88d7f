-- Which bytes are released, told from the bytes before them.
use Prim.Native.Nat.{ℕ, ◌-◌, ◌≤◌, ◌<◌}
use mathlib.Core.Path.{◌≡◌, refl}
use mathlib.Core.Bool.{Bool, true, false, not}
use mathlib.Core.List.{List, [], ◌∷◌, ◌++◌}
use lib.ListN.{length, get_or}
use borrow.Author.Tests.{eq-eqb, ne_eqb}
use Rattle.cut.specs.declared.service.Syntax.{Syntax}
use Rattle.bytewise.specs.Bytes.{part}
use Rattle.cut.specs.Segments.{ends, frees}
use Rattle.cut.specs.Fronts.{after}
use Rattle.bytewise.proofs.Parts.{part_none, part-last}

pub after-append : (y : Syntax) (r : Bool) (xs ys : List ℕ) → after y r (xs ++ ys) ≡ after y (after y r xs) ys
unfolding after
after-append y r [] ys = refl
after-append y r (x ∷ xs) ys = after-append y (frees y r x) xs ys

-- a release character releases the next byte exactly if it is not released itself
pub frees_turns : (y : Syntax) (r : Bool) (x : ℕ) → frees y false x ≡ true → frees y r x ≡ not r
unfolding frees
frees_turns y true x h = refl
frees_turns y false x h = h

-- after any other byte nothing is released, whatever stands before it
pub frees-not : (y : Syntax) (r : Bool) (x : ℕ) → frees y false x ≡ false → frees y r x ≡ false
unfolding frees
frees-not y true x h = refl
frees-not y false x h = h

pub ends-other : (y : Syntax) (r : Bool) (x : ℕ) → (x ≡ y.terminator → ⊥) → ends y r x ≡ false
unfolding ends
ends-other y true x n = refl
ends-other y false x n = ne_eqb _ _ n

pub ends_terminator : (y : Syntax) (r : Bool) (x : ℕ) → x ≡ y.terminator → ends y r x ≡ not r
unfolding ends
ends_terminator y true x t = refl
ends_terminator y false x t = eq-eqb _ _ t

-- b, or its opposite
unfoldable pub turned : Bool → Bool → Bool
turned true b = not b
turned false b = b

turned_false : (r : Bool) → turned r false ≡ r
unfolding turned
turned_false true = refl
turned_false false = refl

turned_not : (r b : Bool) → turned r (not b) ≡ turned (not r) b
unfolding turned
turned_not true true = refl
turned_not true false = refl
turned_not false b = refl

-- the run of release characters before a place, gone through from its end
module _ (y : Syntax) (d : List ℕ) (from i : ℕ) (r : Bool) where
  pub after_last : from < i → i ≤ length d → after y false (part from i d) ≡ frees y (after y false (part from (i - 1) d)) (get_or d (i - 1) 0)
  unfolding after
  after_last h k = rw (part-last d from i h k, after-append y false (part from (i - 1) d) (get_or d (i - 1) 0 ∷ []))

  pub run_on
      : from < i → i ≤ length d → frees y false (get_or d (i - 1) 0) ≡ true
      → turned r (after y false (part from i d)) ≡ turned (not r) (after y false (part from (i - 1) d))
  run_on h k f = rw (after_last h k, frees_turns y (after y false (part from (i - 1) d)) _ f) (turned_not r _)

  pub run-over : from < i → i ≤ length d → frees y false (get_or d (i - 1) 0) ≡ false → turned r (after y false (part from i d)) ≡ r
  run-over h k f = rw (after_last h k, frees-not y (after y false (part from (i - 1) d)) _ f) (turned_false r)

  pub run_out : i ≤ from → turned r (after y false (part from i d)) ≡ r
  unfolding after
  run_out h = rw (part_none d from i h) (turned_false r)
