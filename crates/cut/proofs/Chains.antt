-- What is cut stands one after the other, each behind the one before it; so the segments' places rise and lie within the bytes.
use Prim.Native.Nat.{ℕ, suc, ◌+◌, ◌≤◌, ◌<◌}
use mathlib.Core.Path.{◌≡◌, refl, sym, subst}
use mathlib.Core.Bool.{Bool, true, false, cond, false≢true}
use mathlib.Core.List.{List, [], ◌∷◌}
use native.Mathlib.Nat.{add-zero, le_refl}
use native.Mathlib.Omega.{arith}
use lib.ListN.{length}
use Rattle.cut.specs.declared.service.Syntax.{Syntax}
use Rattle.cut.specs.Segments.{Segment, end_of, ends, frees, join, segments_from, is_break, trim, trimmed, segments_of}
use Rattle.cut.proofs.Starts.{Rising, Below, rising_weaken, below_more}

-- from place p up to place q, without a gap; a piece is the last
unfoldable pub Chain : ℕ → List Segment → ℕ → Type 0
Chain p [] q = p ≡ q
Chain p (s ∷ ss) q = (s.start ≡ p) × (0 < length s.bytes) × (s.piece ≡ true → ss ≡ []) × Chain (end_of s) ss q

join_chain : (e : Bool) (p x q : ℕ) (ss : List Segment) → Chain (suc p) ss q → Chain p (join e p x ss) q
unfolding Chain join
join_chain true p x q ss h =
    let z : suc p ≡ p + 1 = omega arith in
    (refl, omega arith, λ i. absurd (false≢true i), subst (λ (n : ℕ). Chain n ss q) z h)
join_chain false p x q [] h = (refl, omega arith, λ i. refl, omega (arith, h))
join_chain false p x q (s ∷ ss) h =
    let z : end_of s ≡ p + suc (length s.bytes) = omega (arith, h.0) in
    (refl, omega arith, h.2, subst (λ (n : ℕ). Chain n ss q) z h.3)

pub chained : (y : Syntax) (p : ℕ) (r : Bool) (xs : List ℕ) → Chain p (segments_from y p r xs) (p + length xs)
unfolding Chain segments_from
chained y p r [] = sym (add-zero p)
chained y p r (x ∷ xs) =
    let z : suc p + length xs ≡ p + suc (length xs) = omega arith in
    subst (λ (q : ℕ). Chain p (join (ends y r x) p x (segments_from y (suc p) (frees y r x) xs)) q) z
    (join_chain (ends y r x) p x (suc p + length xs) _ (chained y (suc p) (frees y r x) xs))

pub chain_le : (p : ℕ) (ss : List Segment) (q : ℕ) → Chain p ss q → p ≤ q
unfolding Chain
chain_le p [] q h = omega (arith, h)
chain_le p (s ∷ ss) q h = omega (arith, h.0, chain_le (end_of s) ss q h.3)

module _ (y : Syntax) where
  trim-rising : (p : ℕ) (bs : List ℕ) (b : Bool) (us : List Segment) → Rising (p + length bs) us → Rising p (trim y p bs b us)
  unfolding trim Rising
  trim-rising p [] b us k = rw (add-zero p) at k
  trim-rising p (x ∷ xs) b us k =
      let z : p + suc (length xs) ≡ suc p + length xs = omega arith in
      go (is_break y x) (trim-rising (suc p) xs b us (subst (λ (n : ℕ). Rising n us) z k))
    where
      go
          : (c : Bool) → Rising (suc p) (trim y (suc p) xs b us)
          → Rising p (cond c (trim y (suc p) xs b us) (record { start = p; bytes = x ∷ xs; piece = b } ∷ us))
      go true ih = rising_weaken p (suc p) (trim y (suc p) xs b us) (omega arith) ih
      go false ih = (le_refl p, rising_weaken (suc p) (p + suc (length xs)) us (omega arith) k)

  pub trimmed-rising : (p : ℕ) (ss : List Segment) (q : ℕ) → Chain p ss q → Rising p (trimmed y ss)
  unfolding Chain trimmed Rising
  trimmed-rising p [] q h = tt
  trimmed-rising p (s ∷ ss) q h =
      rising_weaken p s.start (trim y s.start s.bytes s.piece (trimmed y ss)) (omega (arith, h.0))
      (trim-rising s.start s.bytes s.piece (trimmed y ss) (trimmed-rising (end_of s) ss q h.3))

  pub segments-rising : (p : ℕ) (xs : List ℕ) → Rising p (segments_of y p xs)
  unfolding segments_of
  segments-rising p xs = trimmed-rising p _ (p + length xs) (chained y p false xs)

  trim-below : (p : ℕ) (bs : List ℕ) (b : Bool) (us : List Segment) (n : ℕ) → p + length bs ≤ n → Below n us → Below n (trim y p bs b us)
  unfolding trim Below
  trim-below p [] b us n h k = k
  trim-below p (x ∷ xs) b us n h k = go (is_break y x) (trim-below (suc p) xs b us n (omega arith) k)
    where
      go : (c : Bool) → Below n (trim y (suc p) xs b us) → Below n (cond c (trim y (suc p) xs b us) (record { start = p; bytes = x ∷ xs; piece = b } ∷ us))
      go true ih = ih
      go false ih = (omega arith, k)

  trimmed-below : (p : ℕ) (ss : List Segment) (q : ℕ) → Chain p ss q → Below q (trimmed y ss)
  unfolding Chain trimmed Below
  trimmed-below p [] q h = tt
  trimmed-below p (s ∷ ss) q h =
      trim-below s.start s.bytes s.piece (trimmed y ss) q (chain_le (end_of s) ss q h.3) (trimmed-below (end_of s) ss q h.3)

  pub segments-below : (p : ℕ) (xs : List ℕ) (n : ℕ) → p + length xs ≤ n → Below n (segments_of y p xs)
  unfolding segments_of
  segments-below p xs n h = below_more (p + length xs) n _ h (trimmed-below p _ (p + length xs) (chained y p false xs))
