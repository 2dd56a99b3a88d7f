-- A whole message begins with UNH and ends with UNT, and neither comes in between. For every table that passes the tests, `framed` among them.
use Prim.Native.Nat.{ℕ, ◌+◌, ◌≤◌, ◌<◌}
use mathlib.Core.Path.{◌≡◌, refl, sym, ap, subst}
use mathlib.Core.Bool.{Bool, true, false}
use mathlib.Core.List.{List, [], ◌∷◌, ◌++◌}
use native.Mathlib.Omega.{arith}
use lib.Dec.{eqb, ltb}
use borrow.Author.Tests.{eqb-true, eqb-false, ltb-true, ltb-false}
use Rattle.guide.specs.Nodes.{View, Guide, node}
use Rattle.guide.specs.Tree.{Kids, none, then, Given, one, giving, assigned, count, top, Limits, Complete, Next, Closed, Open, Whole}
use Rattle.guide.specs.workers.Checks.{Rising, Passes}
use Rattle.guide.specs.workers.Frames.{Framed}
use Rattle.guide.proofs.Basics.{one_same, one-other}
use Rattle.guide.proofs.tables.Required.{complete_come}
use Rattle.guide.proofs.tables.Tables.{takes-limit}
use Rattle.guide.proofs.tables.Framing.{two_nodes}
use Rattle.guide.proofs.placing.Growing.{Begun, closed_open}
use Rattle.guide.proofs.placing.Standing.{rise}
use Rattle.guide.proofs.placing.Ending.{whole_ended}

module _ {A : Type 0} where
  -- how many segments are given node m
  unfoldable pub times : ℕ → List (Given A) → ℕ
  times m [] = 0
  times m (x ∷ xs) = one (eqb x.node m) + times m xs

  pub times_append : (m : ℕ) (xs ys : List (Given A)) → times m (xs ++ ys) ≡ times m xs + times m ys
  unfolding times
  times_append m [] ys = omega arith
  times_append m (x ∷ xs) ys = omega (arith, times_append m xs ys)

  -- segments of which the first alone is given node h
  pub record Headed (h : ℕ) (xs : List (Given A)) : Type 0 where
    pub first : A
    pub rest : List (Given A)
    pub same : xs ≡ giving h first ∷ rest
    pub alone : times h rest ≡ 0

  -- segments that are given node h, then others, and then node z
  pub record Enclosed (h z : ℕ) (xs : List (Given A)) : Type 0 where
    pub first : A
    pub middle : List (Given A)
    pub last : A
    pub same : xs ≡ giving h first ∷ (middle ++ (giving z last ∷ []))
    pub no_head : times h middle ≡ 0
    pub no_tail : times z middle ≡ 0

module _ {A : Type 0} (g : Guide) (view : A → View) (r : Rising g) where
  -- a node of the root does not come inside an instance
  times_inside : (m : ℕ) → (node g m).parent ≡ 0 → (p : ℕ) (f : Kids A) → 0 < p → Open g view p f → times m (assigned f) ≡ 0
  unfolding Open times
  times_inside m e p none l o = refl
  times_inside m e p (then h n s k) l o =
      let next = o.1 in
      let up = rise g view r n (view s) next.takes in
      let other : n ≡ m → ⊥ = λ q. omega (arith, ap (λ (x : ℕ). (node g x).parent) q, next.under) in
      let all = times_append m (assigned h) (giving n s ∷ assigned k) in
      let before = times_inside m e p h l (closed_open g view p h o.0) in
      omega (arith, one-other n m other, times_inside m e n k (omega arith) o.2)

  -- so it comes as often as it is a child of the root
  times_root : (m : ℕ) → (node g m).parent ≡ 0 → (f : Kids A) → Open g view 0 f → times m (assigned f) ≡ count f m
  unfolding Open times
  times_root m e none o = refl
  times_root m e (then h n s k) o =
      let next = o.1 in
      let up = rise g view r n (view s) next.takes in
      let all = times_append m (assigned h) (giving n s ∷ assigned k) in
      let before = times_root m e h (closed_open g view 0 h o.0) in
      omega (arith, times_inside m e n k (omega arith) o.2)

module _ {A : Type 0} (g : Guide) (view : A → View) (u : ℕ) (p : Passes g u) (h : ℕ) (q : Framed g h u) where
  -- a child of the root that is not UNH has a higher counter
  behind : (l : Kids A) (n : ℕ) (s : A) → Next g view 0 l n s → (n ≡ h → ⊥) → (node g h).counter < (node g n).counter
  behind l n s next other = q.first n next.under (takes-limit g n (view s) next.takes) other

  -- before UNH nothing comes
  nothing-before : (f : Kids A) → Open g view 0 f → count f h ≡ 0 → top g f ≤ (node g h).counter → f ≡ none
  unfolding Open
  nothing-before none o e l = refl
  nothing-before (then b n s k) o e l =
      let next = o.1 in
      let other : n ≡ h → ⊥ = λ i. omega (arith, one_same n h i) in
      absurd (omega (arith, behind b n s next other))

  first_head : (f : Kids A) → Open g view 0 f → 1 ≤ count f h → (s : A) × (rest : List (Given A)) × (assigned f ≡ giving h s ∷ rest)
  unfolding Open
  first_head none o l = absurd (omega arith)
  first_head (then b n s k) o l = go (ltb 0 (count b h)) refl (first_head b (closed_open g view 0 b o.0))
    where
      go
          : (t : Bool) → ltb 0 (count b h) ≡ t
          → (1 ≤ count b h → (t : A) × (rest : List (Given A)) × (assigned b ≡ giving h t ∷ rest))
          → (t : A) × (rest : List (Given A)) × (assigned b ++ (giving n s ∷ assigned k) ≡ giving h t ∷ rest)
      go true e ih =
          let x = ih (omega (arith, ltb-true 0 (count b h) e)) in
          (x.0, x.1 ++ (giving n s ∷ assigned k), rw x.2)
      go false e ih = alone (eqb n h) refl
        where
          alone : (t : Bool) → eqb n h ≡ t → (t : A) × (rest : List (Given A)) × (assigned b ++ (giving n s ∷ assigned k) ≡ giving h t ∷ rest)
          alone true i =
              let j : n ≡ h = eqb-true n h i in
              let next = o.1 in
              let zero : count b h ≡ 0 = omega (arith, ltb-false 0 (count b h) e) in
              let empty : b ≡ none = nothing-before b (closed_open g view 0 b o.0) zero (rw (sym j) next.order) in
              (s, assigned k, rw (empty, j))
          alone false i = absurd (omega (arith, ltb-false 0 (count b h) e, one-other n h (eqb-false n h i)))

  -- UNH has come once anything has
  head-comes : (l : Kids A) (n : ℕ) (s : A) (k : Kids A) → Begun g view 0 (then l n s k) → 1 ≤ count (then l n s k) h
  unfolding Open
  head-comes l n s k b = go (eqb n h) refl
    where
      go : (t : Bool) → eqb n h ≡ t → 1 ≤ count l h + one (eqb n h)
      go true e = omega (arith, one_same n h (eqb-true n h e))
      go false e =
          b.due h q.head_once.root (q.head_once.wanted (count (then l n s k)))
          (behind l n s b.opened.1 (eqb-false n h e))

  -- A beginning that is not empty begins with UNH, which does not come again.
  pub begun_headed : (l : Kids A) (n : ℕ) (s : A) (k : Kids A) → Begun g view 0 (then l n s k) → Headed h (assigned (then l n s k))
  unfolding times
  begun_headed l n s k b =
      let root = q.head_once.root in
      let x = first_head (then l n s k) b.opened (head-comes l n s k b) in
      let all = times_root g view p.rising h root (then l n s k) b.opened in
      record {
        first = x.0;
        rest = x.1;
        same = x.2;
        alone = omega (arith, ap (times h) x.2, one_same h h refl, b.limits h root, q.head_once.limit);
      }

  enclosed
      : (l : Kids A) (s : A) → Closed g view 0 (then l u s none) → Limits g 0 (then l u s none) → Complete g 0 (then l u s none)
      → Enclosed h u (assigned (then l u s none))
  unfolding Closed times
  enclosed l s c m a =
      let root = q.head_once.root in
      let end = q.tail_once.root in
      let there = complete_come g 0 (then l u s none) a h root (q.head_once.wanted (count (then l u s none))) in
      let o = closed_open g view 0 l c.0 in
      let x = first_head l o (omega (arith, one-other u h (λ i. two_nodes g h u q (sym i)))) in
      record {
        first = x.0;
        middle = x.1;
        last = s;
        same = rw x.2;
        no_head = omega (arith, times_root g view p.rising h root l o, ap (times h) x.2, one_same h h refl, m h root, q.head_once.limit);
        no_tail = omega (arith, times_root g view p.rising u end l o, ap (times u) x.2, one_same u u refl, m u end, q.tail_once.limit);
      }

  -- A whole message begins with UNH and ends with UNT, and neither comes in between.
  pub whole_enclosed : (ss : List A) (w : Whole g view ss) → Enclosed h u (assigned w.tree)
  whole_enclosed ss w =
      let x = whole_ended g view p.rising u p.ends ss w in
      subst (λ (f : Kids A). Closed g view 0 f → Limits g 0 f → Complete g 0 f → Enclosed h u (assigned f)) (sym x.2) (enclosed x.0 x.1)
      w.closed w.limits w.complete
