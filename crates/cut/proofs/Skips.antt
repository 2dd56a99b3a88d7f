-- Line breaks before a segment: what skipping them leaves.
use Prim.Native.Nat.{ℕ, suc, ◌+◌}
use mathlib.Core.Path.{◌≡◌, refl, ◌∙◌, ap}
use mathlib.Core.Bool.{Bool, true, false, not, ◌&&◌, ◌||◌, and-false}
use mathlib.Core.List.{List, [], ◌∷◌, ◌++◌}
use native.Mathlib.Nat.{add-zero}
use native.Mathlib.Omega.{arith}
use lib.ListN.{length}
use lib.Dec.{eqb}
use borrow.Author.Tests.{eq-eqb, not-true}
use Rattle.bytewise.proofs.Booleans.{and_both, or_neither}
use Rattle.cut.specs.declared.service.Syntax.{Syntax}
use Rattle.cut.specs.Segments.{Segment, ends, frees, join, segments_from, is_break, trim, trimmed, segments_of, breaks}
use Rattle.cut.proofs.First.{first}

-- a line break ends nothing and releases nothing, released or not
module _ (y : Syntax) (x : ℕ) (h : is_break y x ≡ true) where
  break_no_mark : (eqb x y.terminator || eqb x y.release) ≡ false
  unfolding is_break
  break_no_mark = not-true _ (and_both (y.skips && (eqb x 13 || eqb x 10)) (not (eqb x y.terminator || eqb x y.release)) h).1

  pub break_ends : (r : Bool) → ends y r x ≡ false
  unfolding ends
  break_ends true = refl
  break_ends false = (or_neither (eqb x y.terminator) (eqb x y.release) break_no_mark).0

  pub break_frees : (r : Bool) → frees y r x ≡ false
  unfolding frees
  break_frees true = refl
  break_frees false = rw ((or_neither (eqb x y.terminator) (eqb x y.release) break_no_mark).1, and-false)

pub terminator_kept : (y : Syntax) (x : ℕ) → x ≡ y.terminator → is_break y x ≡ false
unfolding is_break
terminator_kept y x e = rw (eq-eqb _ _ e, and-false)

module _ (y : Syntax) (p x : ℕ) (xs : List ℕ) (b : Bool) (ss : List Segment) where
  pub trim-kept : is_break y x ≡ false → trim y p (x ∷ xs) b ss ≡ record { start = p; bytes = x ∷ xs; piece = b } ∷ ss
  unfolding trim
  trim-kept h = rw h

  pub trim_skips : is_break y x ≡ true → trim y p (x ∷ xs) b ss ≡ trim y (suc p) xs b ss
  unfolding trim
  trim_skips h = rw h

pub segments_are : (y : Syntax) (p : ℕ) (xs : List ℕ) → segments_of y p xs ≡ trimmed y (segments_from y p false xs)
unfolding segments_of
segments_are y p xs = refl

pub segments_of_none : (y : Syntax) (p : ℕ) → segments_of y p [] ≡ []
unfolding segments_of segments_from trimmed
segments_of_none y p = refl

skip_first
    : (y : Syntax) (p x : ℕ) → is_break y x ≡ true → (ss : List Segment) → ((s : Segment) (us : List Segment) → ss ≡ s ∷ us → s.start ≡ suc p)
    → trimmed y (join false p x ss) ≡ trimmed y ss
unfolding trimmed join trim
skip_first y p x h [] k = rw h
skip_first y p x h (s ∷ ss) k = rw (h, k s ss refl)

pub skip_cut
    : (y : Syntax) (p x : ℕ) (xs : List ℕ) → is_break y x ≡ true
    → trimmed y (join false p x (segments_from y (suc p) false xs)) ≡ trimmed y (segments_from y (suc p) false xs)
skip_cut y p x xs h = skip_first y p x h (segments_from y (suc p) false xs) (λ s us e. (first y (suc p) false xs s us e).starts)

-- a line break where a segment may begin is skipped
pub skip_one : (y : Syntax) (p x : ℕ) (xs : List ℕ) → is_break y x ≡ true → segments_of y p (x ∷ xs) ≡ segments_of y (suc p) xs
unfolding segments_of segments_from
skip_one y p x xs h = rw (break_ends y x h false, break_frees y x h false) (skip_cut y p x xs h)

-- and so is any run of them
pub skip_breaks : (y : Syntax) (p : ℕ) (bs xs : List ℕ) → breaks y bs ≡ true → segments_of y p (bs ++ xs) ≡ segments_of y (p + length bs) xs
unfolding breaks
skip_breaks y p [] xs h = rw (add-zero p)
skip_breaks y p (b ∷ bs) xs h =
    let k = and_both (is_break y b) (breaks y bs) h in
    let z : suc p + length bs ≡ p + suc (length bs) = omega arith in
    skip_one y p b (bs ++ xs) k.0 ∙ skip_breaks y (suc p) bs xs k.1 ∙ ap (λ (q : ℕ). segments_of y q xs) z
