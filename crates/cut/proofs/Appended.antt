-- The segments of a front followed by a tail, without any condition; and what moving, joining and ordering them gives.
use Prim.Native.Nat.{ℕ, suc, ◌+◌}
use mathlib.Core.Path.{◌≡◌, refl}
use mathlib.Core.Bool.{Bool, true, false, not, ◌&&◌, false≢true, cond}
use mathlib.Core.List.{List, [], ◌∷◌, ◌++◌, map}
use native.Mathlib.Nat.{add-zero, add-suc, suc-add}
use lib.ListN.{length}
use Rattle.cut.specs.declared.service.Syntax.{Syntax}
use Rattle.cut.specs.Segments.{Segment, ends, frees, join, segments_from, joined}
use Rattle.cut.specs.Fronts.{moved, whole, after, glued, meet}

join-meet-some
    : (p x n : ℕ) (bs : List ℕ) (b : Bool) (ss ts : List Segment)
    → join false p x (cond b (glued (record { start = n; bytes = bs; piece = b }) ts) (record { start = n; bytes = bs; piece = b } ∷ meet ss ts))
    ≡ cond b (glued (record { start = p; bytes = x ∷ bs; piece = b }) ts) (record { start = p; bytes = x ∷ bs; piece = b } ∷ meet ss ts)
unfolding join glued
join-meet-some p x n bs true ss [] = refl
join-meet-some p x n bs true ss (t ∷ ts) = refl
join-meet-some p x n bs false ss ts = refl

join-meet : (e : Bool) (p x : ℕ) (ss ts : List Segment) → join e p x (meet ss ts) ≡ meet (join e p x ss) ts
unfolding join meet glued
join-meet true p x ss ts = refl
join-meet false p x [] [] = refl
join-meet false p x [] (t ∷ ts) = refl
join-meet false p x (s ∷ ss) ts = join-meet-some p x s.start s.bytes s.piece ss ts

-- what stands in front of a tail changes at most its first segment
pub segments-append
    : (y : Syntax) (p : ℕ) (r : Bool) (front tail : List ℕ)
    → segments_from y p r (front ++ tail) ≡ meet (segments_from y p r front) (segments_from y (p + length front) (after y r front) tail)
unfolding segments_from meet after
segments-append y p r [] tail = rw add-zero
segments-append y p r (x ∷ xs) tail = rw (segments-append y (suc p) (frees y r x) xs tail, join-meet, suc-add, add-suc)

-- a front that ends where a segment ends: its segments, and then the tail's
pub meet-whole : (ss ts : List Segment) → whole ss ≡ true → meet ss ts ≡ ss ++ ts
unfolding meet whole
meet-whole [] ts h = refl
meet-whole (s ∷ ss) ts h = go s.piece refl h (meet-whole ss ts)
  where
    go
        : (b : Bool) → s.piece ≡ b → (not b && whole ss) ≡ true → (whole ss ≡ true → meet ss ts ≡ ss ++ ts)
        → cond s.piece (glued s ts) (s ∷ meet ss ts) ≡ (s ∷ ss) ++ ts
    go true e k rest = absurd (false≢true k)
    go false e k rest = rw (e, rest k)

join-moved : (e : Bool) (k p x : ℕ) (ss : List Segment) → join e (k + p) x (map (moved k) ss) ≡ map (moved k) (join e p x ss)
unfolding join
join-moved true k p x ss = refl
join-moved false k p x [] = refl
join-moved false k p x (s ∷ ss) = refl

-- the same bytes k places later hold the same segments k places later
pub cuts_moved : (y : Syntax) (k p : ℕ) (r : Bool) (xs : List ℕ) → segments_from y (k + p) r xs ≡ map (moved k) (segments_from y p r xs)
unfolding segments_from
cuts_moved y k p r [] = refl
cuts_moved y k p r (x ∷ xs) = rw (← add-suc k p, cuts_moved y k (suc p) (frees y r x) xs) (join-moved (ends y r x) k p x _)

join-joined : (e : Bool) (p x : ℕ) (ss : List Segment) → joined (join e p x ss) ≡ x ∷ joined ss
unfolding join joined
join-joined true p x ss = refl
join-joined false p x [] = refl
join-joined false p x (s ∷ ss) = refl

-- no byte is lost
pub segments-joined : (y : Syntax) (p : ℕ) (r : Bool) (xs : List ℕ) → joined (segments_from y p r xs) ≡ xs
unfolding segments_from joined
segments-joined y p r [] = refl
segments-joined y p r (x ∷ xs) = rw (join-joined, segments-joined y (suc p) (frees y r x) xs)
