-- The state stands for a tree: its last node ends the tree's right edge, the counts are those of the open instances, and the levels that
-- placing walks are these instances, innermost first.
use Prim.Native.Nat.{ℕ, zero, suc, ◌+◌, ◌≤◌, ◌<◌}
use mathlib.Core.Path.{◌≡◌, refl, sym, ◌∙◌, ap}
use mathlib.Core.Bool.{Bool, true, false, cond}
use mathlib.Core.List.{List, [], ◌∷◌}
use native.Mathlib.Omega.{arith}
use lib.ListN.{length, get_or, replicate, get_or-replicate, length-replicate, get_or-eq_default}
use lib.Dec.{T, eqb, ltb}
use borrow.Author.Tests.{ne_eqb, eqb-true, eqb-false, ltb-false, ltb-true}
use Rattle.guide.specs.Nodes.{View, Guide, node, takes}
use Rattle.guide.specs.Tree.{Kids, none, then, one, count, Open}
use Rattle.guide.specs.Steps.{Claim, Possible, At, here, below, add}
use Rattle.guide.specs.workers.Placing.{Level, level, levels, tally, recounted, counts_after, last_after, State, start, after}
use Rattle.guide.specs.Answers.{placed}
use Rattle.guide.specs.workers.Checks.{Rising}
use Rattle.guide.proofs.placing.Recounting.{recounted-length, recounted-itself, recounted-child, recounted-other}
use Rattle.guide.proofs.tables.Tables.{takes-limit, in_table}

module _ {A : Type 0} (g : Guide) where
  -- the node of the innermost open instance
  abbrev pub last_node : ℕ → Kids A → ℕ
  last_node p none = p
  last_node p (then l n s k) = last_node n k

  -- the open instances, innermost first, and then the rest
  abbrev pub spine : ℕ → Kids A → List Level → List Level
  spine p none rest = level p 0 ∷ rest
  spine p (then l n s k) rest = spine n k (level p (node g n).counter ∷ rest)

  -- the counts of the children of p are those of f
  abbrev pub Counted : ℕ → Kids A → List ℕ → Type 0
  Counted p f cs = (m : ℕ) → (node g m).parent ≡ p → tally cs m ≡ count f m

  -- ... of every open instance
  unfoldable pub Counts : ℕ → Kids A → List ℕ → Type 0
  Counts p none cs = Counted p none cs
  Counts p (then l n s k) cs = Counted p (then l n s k) cs × Counts n k cs

  -- the state stands for the tree f
  pub record Stands (f : Kids A) (st : State) : Type 0 where
    pub last : st.last ≡ last_node 0 f
    pub counts : Counts 0 f st.counts
    pub room : length g ≤ length st.counts

  pub counted : (p : ℕ) (f : Kids A) (cs : List ℕ) → Counts p f cs → Counted p f cs
  unfolding Counts
  counted p none cs c = c
  counted p (then l n s k) cs c = c.0

  pub stands-start : (z : ℕ) → length g ≤ z → Stands none (start z)
  unfolding Counts
  stands-start z h = record { last = refl; counts = λ m e. zeros m; room = omega (arith, length-replicate {A = ℕ} z 0) }
    where
      zeros : (m : ℕ) → ◌≡◌ {A = ℕ} (get_or (replicate z 0) m 0) 0
      zeros m = go (ltb m z) refl
        where
          go : (b : Bool) → ltb m z ≡ b → ◌≡◌ {A = ℕ} (get_or (replicate z 0) m 0) 0
          go true e = get_or-replicate {A = ℕ} z m 0 0 (ltb-true m z e)
          go false e =
              let l : length {A = ℕ} (replicate z 0) ≤ m = omega (arith, length-replicate {A = ℕ} z 0, ltb-false m z e) in
              get_or-eq_default {A = ℕ} (replicate z 0) 0 l

module _ {A : Type 0} (g : Guide) (view : A → View) (r : Rising g) where
  -- an instance that takes a segment has a parent of a lower number
  pub rise : (n : ℕ) (v : View) → T (takes g n v) → (node g n).parent < n
  rise n v t = r.rises n (takes-limit g n v t)

  -- what comes in f comes in an instance of a number from p on
  pub at_deep
      : (F : Claim A) → Possible g F → (p : ℕ) (f : Kids A) (n : ℕ) → At F p f n → Open g view p f
      → p ≤ (node g n).parent
  unfolding Open
  at_deep F mi p f n (here h) o = omega (arith, (mi p f n h).under)
  at_deep F mi p f n (below {x = x} {k = k} d) o =
      let next = o.1 in
      omega (arith, rise x _ next.takes, next.under, at_deep F mi x k n d o.2)

  -- from an instance outward the levels are `rest`
  abbrev Outward : ℕ → List Level → Type 0
  Outward p rest = (k : ℕ) → p ≤ k → cond (eqb p 0) [] (levels g k (node g p).parent (node g p).counter) ≡ rest

  outward_child : (p n : ℕ) (rest : List Level) → (node g n).parent ≡ p → p < n → Outward p rest → Outward n (level p (node g n).counter ∷ rest)
  unfolding levels
  outward_child p n rest e l h zero i = absurd (omega arith)
  outward_child p n rest e l h (suc k) i =
      let d : (n ≡ 0) → ⊥ = λ q. omega arith in
      rw (ne_eqb n 0 d, e, h k (omega arith))

  walk
      : (p : ℕ) (f : Kids A) (rest : List Level) → Open g view p f → Outward p rest → (k : ℕ) → last_node g p f < k
      → levels g k (last_node g p f) 0 ≡ spine g p f rest
  unfolding levels Open
  walk p none rest o h zero i = absurd (omega arith)
  walk p none rest o h (suc k) i = rw (h k (omega arith))
  walk p (then l n s k) rest o h j i =
      let next = o.1 in
      let up : p < n = omega (arith, rise n _ next.takes, next.under) in
      walk n k (level p (node g n).counter ∷ rest) o.2 (outward_child p n rest next.under up h) j i

  -- the levels that placing walks
  pub levels_spine : (f : Kids A) → Open g view 0 f → levels g (suc (last_node g 0 f)) (last_node g 0 f) 0 ≡ spine g 0 f []
  levels_spine f o = walk 0 f [] o (λ k i. refl) (suc (last_node g 0 f)) (omega arith)

  module _ (n : ℕ) (s : A) (t : T (takes g n (view s))) (cs : List ℕ) (room : length g ≤ length cs) where
    counted_same : (p : ℕ) (f : Kids A) → p < (node g n).parent → Counted g p f cs → Counted g p f (recounted g n cs)
    counted_same p f h c m e =
        let up = rise n (view s) t in
        recounted-other g n cs m (λ q. omega (arith, ap (λ (x : ℕ). (node g x).parent) q)) (λ q. omega arith) ∙ c m e

    counts_same : (p : ℕ) (f : Kids A) → (node g n).parent ≡ p → Counted g p f cs → Counted g p (then f n s none) (recounted g n cs)
    counts_same p f u c m e = go (eqb n m) refl
      where
        up : (node g n).parent < n
        up = rise n (view s) t

        go : (b : Bool) → eqb n m ≡ b → tally (recounted g n cs) m ≡ count f m + one b
        go true q =
            let i : n < length cs = omega (arith, in_table g n (takes-limit g n (view s) t)) in
            let same : n ≡ m = eqb-true n m q in
            rw (sym same) (recounted-itself g n cs i ∙ (ap suc (c n u) ∙ omega arith))
        go false q =
            recounted-other g n cs m (λ i. eqb-false n m q (sym i)) (λ i. omega (arith, up)) ∙ (c m e ∙ omega arith)

    counts_new : Counted {A = A} g n none (recounted g n cs)
    counts_new m e =
        let up = rise n (view s) t in
        recounted-child g n cs m (λ q. omega (arith, ap (λ (x : ℕ). (node g x).parent) q)) e

    pub counts-add
        : (F : Claim A) → Possible g F → (p : ℕ) (f : Kids A) (d : At F p f n) → Open g view p f
        → Counts g p f cs → Counts g p (add d s) (recounted g n cs)
    unfolding Counts Open
    counts-add F mi p f (here h) o c = (counts_same p f (mi p f n h).under (counted g p f cs c), counts_new)
    counts-add F mi p f (below {l = l} {x = x} {t = t'} {k = k} d) o c =
        let next = o.1 in
        let up : p < (node g n).parent = omega (arith, rise x _ next.takes, next.under, at_deep F mi x k n d o.2) in
        (counted_same p (then l x t' k) up c.0, counts-add F mi x k d o.2 c.1)

  last-add : (F : Claim A) (p : ℕ) (f : Kids A) (n : ℕ) (s : A) (d : At F p f n) → last_node g p (add d s) ≡ n
  last-add F p f n s (here h) = refl
  last-add F p f n s (below {x = x} {k = k} d) = last-add F x k n s d

  -- the state after a segment stands for the tree with it
  pub stands-add
      : (F : Claim A) → Possible g F → (f : Kids A) (st : State) (n : ℕ) (s : A) (d : At F 0 f n)
      → T (takes g n (view s)) → Open g view 0 f → Stands g f st → Stands g (add d s) (after g (placed n) st)
  unfolding counts_after last_after
  stands-add F mi f st n s d t o z =
      record {
        last = sym (last-add F 0 f n s d);
        counts = counts-add n s t st.counts z.room F mi 0 f d o z.counts;
        room = omega (arith, z.room, recounted-length g n st.counts);
      }
