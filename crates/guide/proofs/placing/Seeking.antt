-- The search outward for the node that takes a segment finds what the tree says.
use Prim.Native.Nat.{ℕ, ◌-◌, ◌≤◌, ◌<◌}
use mathlib.Core.Path.{◌≡◌, ◌∙◌}
use mathlib.Core.Bool.{◌&&◌}
use mathlib.Core.List.{List, ◌∷◌}
use mathlib.Core.Logic.{◌⊎◌, inl, inr}
use native.Mathlib.Omega.{arith}
use lib.ListN.{length}
use lib.Dec.{T, eqb, leb, eqb→eq, leb→le, le→leb}
use Rattle.guide.specs.Nodes.{View, Guide, node, matches, takes}
use Rattle.guide.specs.Tree.{Kids, none, then}
use Rattle.guide.specs.Steps.{At, here, below, Might}
use Rattle.guide.specs.workers.Placing.{first_node, Level, level, fits_in, seek}
use Rattle.guide.specs.Choices.{or_else}
use Rattle.guide.specs.workers.Checks.{Rising}
use Rattle.guide.proofs.Basics.{and_left, and_right, and_both, eq-T, Search, found, nowhere, searched, or_else-some}
use Rattle.guide.proofs.tables.Tables.{in_table, takes-matches, takes-limit, matches-limit, takes_make, Rival, rival-one}
use Rattle.guide.proofs.placing.Standing.{spine}

module _ (g : Guide) (r : Rising g) (v : View) where
  pub fits-parts
      : (p c n : ℕ) → T (fits_in g v p c n) → ((node g n).parent ≡ p) × (c ≤ (node g n).counter) × T (matches (node g n) v)
  unfolding fits_in
  fits-parts p c n h =
      let rest = and_right (eqb (node g n).parent p) _ h in (
        eqb→eq (node g n).parent p (and_left (eqb (node g n).parent p) _ h),
        leb→le c (node g n).counter (and_left (leb c (node g n).counter) _ rest),
        and_right (leb c (node g n).counter) (matches (node g n) v) rest,
      )

  pub fits_make : (p c n : ℕ) → (node g n).parent ≡ p → c ≤ (node g n).counter → T (matches (node g n) v) → T (fits_in g v p c n)
  unfolding fits_in
  fits_make p c n e l m =
      and_both (eqb (node g n).parent p) (leb c (node g n).counter && matches (node g n) v) (eq-T _ _ e)
      (and_both (leb c (node g n).counter) (matches (node g n) v) (le→leb _ _ l) m)

  -- the lowest node that matches takes the segment: a rival would be lower
  first-takes
      : (p c n : ℕ) → T (fits_in g v p c n) → ((x : ℕ) → 1 ≤ x → x < n → T (fits_in g v p c x) → ⊥) → T (takes g n v)
  first-takes p c n h low =
      let parts = fits-parts p c n h in
      takes_make g n v parts.2 (λ k. rivalled parts (rival-one g n (node g n) v k))
    where
      rivalled : ((node g n).parent ≡ p) × (c ≤ (node g n).counter) × T (matches (node g n) v) → Rival g n (node g n) v → ⊥
      rivalled parts q =
          let m = q.lower in
          let up = r.rises m (matches-limit g m v q.matching) in
          low m (omega arith) q.below (fits_make p c m (q.parents ∙ parts.0) (omega (arith, parts.1, q.counters)) q.matching)

  -- what one level says: the node that comes next there, or that none can
  pub data Hit (p c : ℕ) : ℕ → Type 0 where
    hit : {n : ℕ} → 0 < n → T (takes g n v) → (node g n).parent ≡ p → c ≤ (node g n).counter → Hit p c n
    miss : ((n : ℕ) → T (takes g n v) → (node g n).parent ≡ p → c ≤ (node g n).counter → ⊥) → Hit p c 0

  pub hits : (p c : ℕ) → Hit p c (first_node g (fits_in g v p c))
  hits p c = go (searched (fits_in g v p c) 1 (length g - 1))
    where
      go : {n : ℕ} → Search (fits_in g v p c) 1 (length g - 1) n → Hit p c n
      go (found {n = n} l e h low) =
          let parts = fits-parts p c n h in
          hit l (first-takes p c n h low) parts.0 parts.1
      go (nowhere never) =
          miss λ n t e l.
          let up = r.rises n (takes-limit g n v t) in
          let i = in_table g n (takes-limit g n v t) in
          never n (omega arith) (omega arith) (fits_make p c n e l (takes-matches g n v t))

module _ {A : Type 0} (g : Guide) (r : Rising g) (v : View) where
  -- what the search finds in the open instances of f, before it goes on to the rest
  pub data Sought (p : ℕ) (f : Kids A) (rest : List Level) : ℕ → Type 0 where
    sought : {n : ℕ} → 0 < n → T (takes g n v) → At (Might g) p f n → Sought p f rest n
    outside : ((n : ℕ) → T (takes g n v) → At (Might g) p f n → ⊥) → Sought p f rest (seek g v rest)

  at_none : (p n : ℕ) → At (Might {A = A} g) p none n → Might {A = A} g p none n
  at_none p n (here h) = h

  at-then
      : (p : ℕ) (l : Kids A) (x : ℕ) (t : A) (k : Kids A) (n : ℕ) → At (Might g) p (then l x t k) n
      → Might g p (then l x t k) n ⊎ At (Might g) x k n
  at-then p l x t k n (here h) = inl h
  at-then p l x t k n (below d) = inr d

  sought_none : (p : ℕ) (rest : List Level) {n : ℕ} → Hit g r v p 0 n → Sought p none rest (or_else n (seek g v rest))
  sought_none p rest (hit {n = n} i t e l) = rw (or_else-some n (seek g v rest) i) (sought i t (here (record { under = e; order = l })))
  sought_none p rest (miss never) = outside λ n t d. let h = at_none p n d in never n t h.under h.order

  sought_then
      : (p : ℕ) (l : Kids A) (x : ℕ) (t : A) (k : Kids A) (rest : List Level) {n : ℕ} → Hit g r v p (node g x).counter n
      → ((n : ℕ) → T (takes g n v) → At (Might g) x k n → ⊥) → Sought p (then l x t k) rest (or_else n (seek g v rest))
  sought_then p l x t k rest (hit {n = n} i u e o) below-no =
      rw (or_else-some n (seek g v rest) i) (sought i u (here (record { under = e; order = o })))
  sought_then p l x t k rest (miss never) below-no = outside λ n u d. split n u (at-then p l x t k n d)
    where
      split : (n : ℕ) → T (takes g n v) → Might g p (then l x t k) n ⊎ At (Might g) x k n → ⊥
      split n u (inl h) = never n u h.under h.order
      split n u (inr d) = below-no n u d

  pub seeking : (p : ℕ) (f : Kids A) (rest : List Level) → Sought p f rest (seek g v (spine g p f rest))
  unfolding seek
  seeking p none rest = sought_none p rest (hits g r v p 0)
  seeking p (then l x t k) rest = go (seeking x k (level p (node g x).counter ∷ rest))
    where
      go : {n : ℕ} → Sought x k (level p (node g x).counter ∷ rest) n → Sought p (then l x t k) rest n
      go (sought i u d) = sought i u (below d)
      go (outside never) = sought_then p l x t k rest (hits g r v p (node g x).counter) never
