-- Tables of marks, of any kind: each number has a place and a mark, and what a place has stays when more is merged into it; so with several numbers, one after
-- the other.
use Prim.Native.Nat.{ℕ, ◌<◌}
use mathlib.Core.Path.{◌≡◌, refl, ◌∙◌}
use mathlib.Core.Bool.{Bool, true, false, ◌&&◌}
use mathlib.Core.List.{List, [], ◌∷◌}
use native.Mathlib.Omega.{arith}
use lib.ListN.{length, get_or, set, length-set}
use lib.Seq.{get_or-set_same, get_or-set_other}
use lib.Dec.{eqb}
use borrow.Author.Tests.{eqb-true, eqb-false}
use Rattle.bytewise.proofs.Booleans.{and_both, both-and}

module _ (place mark : ℕ → ℕ) (merge : ℕ → ℕ → ℕ) (has : ℕ → ℕ → Bool) where
  abbrev merged : List ℕ → ℕ → ℕ
  merged t f = merge (get_or t (place f) 0) (mark f)

  -- the table after the number f, and whether it has the mark of a number
  abbrev put_in : List ℕ → ℕ → List ℕ
  put_in t f = set t (place f) (merged t f)

  abbrev is_in : List ℕ → ℕ → Bool
  is_in t f = has (get_or t (place f) 0) (mark f)

  put-length : (t : List ℕ) (f : ℕ) → length (put_in t f) ≡ length t
  put-length t f = length-set t _ _

  module _ (size : ℕ) (inside : (f : ℕ) → place f < size) where
    put_has
        : ((v f : ℕ) → has (merge v (mark f)) (mark f) ≡ true) → (t : List ℕ) (f : ℕ) → length t ≡ size → is_in (put_in t f) f ≡ true
    put_has gets t f l = rw (get_or-set_same t (place f) (merged t f) 0 (omega (arith, inside f, l))) (gets (get_or t (place f) 0) f)

    put_keeps
        : ((v f g : ℕ) → has v (mark g) ≡ true → has (merge v (mark f)) (mark g) ≡ true) → (t : List ℕ) (f g : ℕ) → length t ≡ size
        → is_in t g ≡ true → is_in (put_in t f) g ≡ true
    put_keeps keeps t f g l k = go (eqb (place g) (place f)) refl
      where
        go : (b : Bool) → eqb (place g) (place f) ≡ b → has (get_or (put_in t f) (place g) 0) (mark g) ≡ true
        go true e =
            let z = eqb-true (place g) (place f) e in
            let h : has (get_or t (place f) 0) (mark g) ≡ true = rw (← z) k in
            rw (z, get_or-set_same t (place f) (merged t f) 0 (omega (arith, inside f, l))) (keeps (get_or t (place f) 0) f g h)
        go false e = rw (get_or-set_other t (place f) (place g) (merged t f) 0 (eqb-false (place g) (place f) e)) k

  -- the table after the numbers fs, one after the other, and whether it has the marks of all
  abbrev pub put_all : List ℕ → List ℕ → List ℕ
  put_all t [] = t
  put_all t (f ∷ fs) = put_all (put_in t f) fs

  abbrev pub all_in : List ℕ → List ℕ → Bool
  all_in t [] = true
  all_in t (f ∷ []) = is_in t f
  all_in t (f ∷ g ∷ fs) = is_in t f && all_in t (g ∷ fs)

  pub all-length : (t fs : List ℕ) → length (put_all t fs) ≡ length t
  all-length t [] = refl
  all-length t (f ∷ fs) = all-length (put_in t f) fs ∙ put-length t f

  module _ (size : ℕ) (inside : (f : ℕ) → place f < size) (gets : (v f : ℕ) → has (merge v (mark f)) (mark f) ≡ true)
      (keeps : (v f g : ℕ) → has v (mark g) ≡ true → has (merge v (mark f)) (mark g) ≡ true) where
    one-stays : (t fs : List ℕ) (g : ℕ) → length t ≡ size → is_in t g ≡ true → is_in (put_all t fs) g ≡ true
    one-stays t [] g l h = h
    one-stays t (f ∷ fs) g l h = one-stays (put_in t f) fs g (put-length t f ∙ l) (put_keeps size inside keeps t f g l h)

    pub all_stay : (t fs gs : List ℕ) → length t ≡ size → all_in t gs ≡ true → all_in (put_all t fs) gs ≡ true
    all_stay t fs [] l h = refl
    all_stay t fs (g ∷ []) l h = one-stays t fs g l h
    all_stay t fs (g ∷ k ∷ gs) l h =
        let p = and_both (is_in t g) (all_in t (k ∷ gs)) h in
        both-and _ _ (one-stays t fs g l p.0) (all_stay t fs (k ∷ gs) l p.1)

    pub all_come : (t fs : List ℕ) → length t ≡ size → all_in (put_all t fs) fs ≡ true
    all_come t [] l = refl
    all_come t (f ∷ []) l = put_has size inside gets t f l
    all_come t (f ∷ g ∷ fs) l =
        let m = put-length t f ∙ l in
        both-and _ _ (one-stays (put_in t f) (g ∷ fs) f m (put_has size inside gets t f l)) (all_come (put_in t f) (g ∷ fs) m)
