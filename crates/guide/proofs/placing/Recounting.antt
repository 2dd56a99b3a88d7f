-- Laws of the counts after an instance has begun.
use Prim.Native.Nat.{ℕ, zero, suc, ◌+◌, ◌≤◌, ◌<◌}
use mathlib.Core.Path.{◌≡◌, refl, sym, ◌∙◌, ap}
use mathlib.Core.Bool.{Bool, true, false}
use mathlib.Core.List.{List, [], ◌∷◌}
use native.Mathlib.Omega.{arith}
use lib.ListN.{length, get_or, get_or-eq_default}
use lib.Seq.{ext_get_or}
use lib.Dec.{ltb}
use borrow.Author.Tests.{eq-eqb, ne_eqb, ltb-false, ltb-true}
use Rattle.guide.specs.Nodes.{Guide, node}
use Rattle.guide.specs.workers.Placing.{tally, recount, indexed, recounted}

indexed-from : (f : ℕ → ℕ → ℕ) (i m : ℕ) (cs : List ℕ) → m < length cs → get_or (indexed f i cs) m 0 ≡ f (m + i) (get_or cs m 0)
unfolding indexed
indexed-from f i m [] h = absurd (omega arith)
indexed-from f i zero (c ∷ cs) h =
    let e : 0 + i ≡ i = omega arith in
    rw e
indexed-from f i (suc m) (c ∷ cs) h =
    let e : suc m + i ≡ m + suc i = omega arith in
    rw (indexed-from f (suc i) m cs (omega arith), e)

pub indexed-tally : (f : ℕ → ℕ → ℕ) (m : ℕ) (cs : List ℕ) → m < length cs → tally (indexed f 0 cs) m ≡ f m (tally cs m)
indexed-tally f m cs h =
    let e : m + 0 ≡ m = omega arith in
    indexed-from f 0 m cs h ∙ rw e

pub indexed-length : (f : ℕ → ℕ → ℕ) (i : ℕ) (cs : List ℕ) → length (indexed f i cs) ≡ length cs
unfolding indexed
indexed-length f i [] = refl
indexed-length f i (c ∷ cs) = ap suc (indexed-length f (suc i) cs)

-- a row that counts so is it
pub indexed-is
    : (f : ℕ → ℕ → ℕ) (cs ds : List ℕ) → length ds ≡ length cs → ((m : ℕ) → m < length cs → tally ds m ≡ f m (tally cs m)) → ds ≡ indexed f 0 cs
indexed-is f cs ds l h =
    ext_get_or 0 ds (indexed f 0 cs) (l ∙ sym (indexed-length f 0 cs))
    (λ m i. let j : m < length cs = omega arith in h m j ∙ sym (indexed-tally f m cs j))

-- the counts after an instance of n has begun
pub recounted-tally : (g : Guide) (n m : ℕ) (cs : List ℕ) → m < length cs → tally (recounted g n cs) m ≡ recount g n m (tally cs m)
unfolding recounted
recounted-tally g n m cs h = indexed-tally (recount g n) m cs h

pub recounted-length : (g : Guide) (n : ℕ) (cs : List ℕ) → length (recounted g n cs) ≡ length cs
unfolding recounted
recounted-length g n cs = indexed-length (recount g n) 0 cs

module _ (g : Guide) (n : ℕ) (cs : List ℕ) where
  pub recounted-itself : n < length cs → tally (recounted g n cs) n ≡ suc (tally cs n)
  recounted-itself h = recounted-tally g n n cs h ∙ rw (eq-eqb n n refl)

  pub recounted-child : (m : ℕ) → (m ≡ n → ⊥) → (node g m).parent ≡ n → tally (recounted g n cs) m ≡ 0
  recounted-child m d e = go (ltb m (length cs)) refl
    where
      go : (b : Bool) → ltb m (length cs) ≡ b → tally (recounted g n cs) m ≡ 0
      go true h = recounted-tally g n m cs (ltb-true m (length cs) h) ∙ rw (ne_eqb m n d, eq-eqb (node g m).parent n e)
      go false h =
          let l : length (recounted g n cs) ≤ m = omega (arith, recounted-length g n cs, ltb-false m (length cs) h) in
          get_or-eq_default (recounted g n cs) 0 l

  pub recounted-other : (m : ℕ) → (m ≡ n → ⊥) → ((node g m).parent ≡ n → ⊥) → tally (recounted g n cs) m ≡ tally cs m
  recounted-other m d e = go (ltb m (length cs)) refl
    where
      go : (b : Bool) → ltb m (length cs) ≡ b → tally (recounted g n cs) m ≡ tally cs m
      go true h = recounted-tally g n m cs (ltb-true m (length cs) h) ∙ rw (ne_eqb m n d, ne_eqb (node g m).parent n e)
      go false h =
          let l : length (recounted g n cs) ≤ m = omega (arith, recounted-length g n cs, ltb-false m (length cs) h) in
          let k : length cs ≤ m = ltb-false m (length cs) h in
          get_or-eq_default (recounted g n cs) 0 l ∙ sym (get_or-eq_default cs 0 k)
