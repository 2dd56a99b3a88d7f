-- The table of prints: a mark stays.
use Prim.Native.Nat.{ℕ, ◌<◌}
use mathlib.Core.Path.{◌≡◌, refl, sym}
use mathlib.Core.Bool.{Bool, true, false, cond, ◌||◌, or-true}
use mathlib.Core.List.{List, [], ◌∷◌}
use native.Mathlib.Omega.{arith}
use lib.ListN.{length}
use lib.Dec.{eqb}
use borrow.Author.Tests.{eq-eqb, ne_eqb, eqb-true}
use Rattle.sieve.specs.workers.Marks.{cell_of, mark_of, merged_by, held_by, held_in, with_mark, second_of, third_of, marked_in, mark_in}
use Rattle.sieve.proofs.Tables.{all-length, all_stay, all_come}

pub cell_inside : (f : ℕ) → cell_of f < 8192
unfolding cell_of
cell_inside f = omega arith

mark-some : (f : ℕ) → mark_of f ≡ 0 → ⊥
unfolding mark_of
mark-some f h = omega arith

pub merged_several : (v m : ℕ) → (v ≡ 0 → ⊥) → (v ≡ m → ⊥) → 255 ≡ merged_by v m
unfolding merged_by
merged_several v m h k = rw (ne_eqb v 0 h, ne_eqb v m k)

-- a cell holds the mark that is set, and all that it held
merged_holds : (v m : ℕ) → held_by (merged_by v m) m ≡ true
unfolding held_by merged_by
merged_holds v m = go (eqb v 0) (eqb v m)
  where
    self : eqb m 255 || eqb m m ≡ true
    self = rw (eq-eqb m m refl) (or-true (eqb m 255))

    go : (a b : Bool) → eqb (cond a m (cond b m 255)) 255 || eqb (cond a m (cond b m 255)) m ≡ true
    go true b = self
    go false true = self
    go false false = refl

merged_keeps : (v m l : ℕ) → (l ≡ 0 → ⊥) → held_by v l ≡ true → held_by (merged_by v m) l ≡ true
unfolding held_by merged_by
merged_keeps v m l n h = go (eqb v 0) refl (eqb v m) refl
  where
    -- what is in the cell already
    again : v ≡ m → eqb m 255 || eqb m l ≡ true
    again e = rw e at h

    nothing : v ≡ 0 → ⊥
    nothing z = other (eqb v l) refl (rw z at h)
      where
        other : (b : Bool) → eqb v l ≡ b → eqb 0 255 || eqb 0 l ≡ true → ⊥
        other b e k = n (sym (eqb-true 0 l k))

    go : (a : Bool) → eqb v 0 ≡ a → (b : Bool) → eqb v m ≡ b → eqb (cond a m (cond b m 255)) 255 || eqb (cond a m (cond b m 255)) l ≡ true
    go true p b q = absurd (nothing (eqb-true v 0 p))
    go false p true q = again (eqb-true v m q)
    go false p false q = refl

-- the three numbers of a print
abbrev three : ℕ → List ℕ
three f = f ∷ second_of f ∷ third_of f ∷ []

module _ (t : List ℕ) (f : ℕ) where
  pub mark-length : length (mark_in t f) ≡ length t
  unfolding mark_in with_mark
  mark-length = all-length cell_of mark_of merged_by held_by t (three f)

  module _ (size : length t ≡ 8192) where
    pub mark_marks : marked_in (mark_in t f) f ≡ true
    unfolding marked_in held_in mark_in with_mark
    mark_marks =
        all_come cell_of mark_of merged_by held_by 8192 cell_inside (λ v g. merged_holds v (mark_of g))
        (λ v h g. merged_keeps v (mark_of h) (mark_of g) (mark-some g)) t (three f) size

    pub mark-keeps : (g : ℕ) → marked_in t g ≡ true → marked_in (mark_in t f) g ≡ true
    unfolding marked_in held_in mark_in with_mark
    mark-keeps g =
        all_stay cell_of mark_of merged_by held_by 8192 cell_inside (λ v g. merged_holds v (mark_of g))
        (λ v h g. merged_keeps v (mark_of h) (mark_of g) (mark-some g)) t (three f) (three g) size
