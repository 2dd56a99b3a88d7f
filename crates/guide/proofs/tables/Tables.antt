-- What the computed tests of a table give, once for every table that passes.
use Prim.Native.Nat.{ℕ, zero, suc, ◌≤◌, ◌<◌}
use mathlib.Core.Path.{◌≡◌, refl, sym}
use mathlib.Core.Bool.{Bool, true, false, not, ◌&&◌, ◌||◌}
use mathlib.Core.List.{List, [], ◌∷◌}
use native.Mathlib.Omega.{arith}
use lib.ListN.{length, get_or-eq_default}
use lib.Dec.{T, eqb, ltb, leb, eqb→eq, ltb→lt, lt→ltb, leb→le, le→leb, T_not, not_T}
use borrow.Author.Tests.{eqb-true, eqb-false, ltb-false}
use Rattle.guide.specs.Nodes.{View, Selector, Node, Guide, capacity, message, node, among, chosen, matches, same_place, rival, takes, paired, number_of}
use Rattle.plain.specs.Plain.{same}
use Rattle.guide.specs.workers.Checks.{
  lower_parent,
  must_takes,
  in_order,
  every,
  rising,
  shared,
  any_of,
  together,
  overlap,
  follows,
  upward,
  clear,
  one_place,
  apart_at,
  apart,
  distinct,
  earlier,
  ends,
  mated,
  mates,
  Rising,
  Under,
  child,
  deeper,
  Apart,
  Ends,
  Mated,
  Pairing,
  Passes,
}
use Rattle.guide.proofs.Basics.{
  same_number,
  T_true,
  false-T,
  and_left,
  and_right,
  and_both,
  or_left,
  or_right,
  or_cases,
  implied,
  eq-T,
  same-eq,
  same_refl,
  every-at,
}
use Rattle.guide.proofs.tables.Required.{must-required, required_cases}

-- a node that takes a segment stands in the table
pub in_table : (g : Guide) (n : ℕ) → 0 < (node g n).limit → n < length g
in_table g n h = go (ltb n (length g)) refl
  where
    go : (b : Bool) → ltb n (length g) ≡ b → n < length g
    go true e = ltb→lt n (length g) (T_true e)
    go false e =
        let l : length g ≤ n = ltb-false n (length g) e in
        absurd (let z = rw (get_or-eq_default g message l) at h in omega arith)

module _ (g : Guide) (n : ℕ) (v : View) where
  pub takes-matches : T (takes g n v) → T (matches (node g n) v)
  unfolding takes
  takes-matches h = and_left (matches (node g n) v) (not (rival g n (node g n) v)) h

  takes_alone : T (takes g n v) → T (rival g n (node g n) v) → ⊥
  unfolding takes
  takes_alone h = T_not (rival g n (node g n) v) (and_right (matches (node g n) v) (not (rival g n (node g n) v)) h)

  pub takes_make : T (matches (node g n) v) → (T (rival g n (node g n) v) → ⊥) → T (takes g n v)
  unfolding takes
  takes_make h k = and_both (matches (node g n) v) (not (rival g n (node g n) v)) h (not_T (rival g n (node g n) v) k)

  pub matches-limit : T (matches (node g n) v) → 0 < (node g n).limit
  unfolding matches
  matches-limit h = ltb→lt 0 (node g n).limit (and_left (ltb 0 (node g n).limit) _ h)

  pub takes-limit : T (takes g n v) → 0 < (node g n).limit
  takes-limit h = matches-limit (takes-matches h)

-- a lower node of the same place that matches too
pub record Rival (g : Guide) (k : ℕ) (x : Node) (v : View) : Type 0 where
  pub lower : ℕ
  pub below : lower < k
  pub parents : (node g lower).parent ≡ x.parent
  pub counters : (node g lower).counter ≡ x.counter
  pub matching : T (matches (node g lower) v)

pub rival-one : (g : Guide) (k : ℕ) (x : Node) (v : View) → T (rival g k x v) → Rival g k x v
unfolding rival same_place
rival-one g zero x v h = absurd h
rival-one g (suc k) x v h = or_cases (same_place (node g k) x && matches (node g k) v) (rival g k x v) first (λ r. later (rival-one g k x v r)) h
  where
    first : T (same_place (node g k) x && matches (node g k) v) → Rival g (suc k) x v
    first a =
        let p = and_left (same_place (node g k) x) (matches (node g k) v) a in
        record {
          lower = k;
          below = omega arith;
          parents = eqb→eq _ _ (and_left (eqb (node g k).parent x.parent) (eqb (node g k).counter x.counter) p);
          counters = eqb→eq _ _ (and_right (eqb (node g k).parent x.parent) (eqb (node g k).counter x.counter) p);
          matching = and_right (same_place (node g k) x) (matches (node g k) v) a;
        }

    later : Rival g k x v → Rival g (suc k) x v
    later r = record { lower = r.lower; below = omega (arith, r.below); parents = r.parents; counters = r.counters; matching = r.matching }

pub rival_make
    : (g : Guide) (k m : ℕ) (x : Node) (v : View) → m < k → (node g m).parent ≡ x.parent → (node g m).counter ≡ x.counter
    → T (matches (node g m) v) → T (rival g k x v)
unfolding rival same_place
rival_make g zero m x v l a b c = absurd (omega arith)
rival_make g (suc k) m x v l a b c = go (eqb m k) refl (rival_make g k m x v)
  where
    go
        : (q : Bool) → eqb m k ≡ q
        → (m < k → (node g m).parent ≡ x.parent → (node g m).counter ≡ x.counter → T (matches (node g m) v) → T (rival g k x v))
        → T ((same_place (node g k) x && matches (node g k) v) || rival g k x v)
    go true e ih =
        let i : m ≡ k = eqb-true m k e in
        or_left (same_place (node g k) x && matches (node g k) v) (rival g k x v) (
        rw (sym i)
        (and_both (same_place (node g m) x) (matches (node g m) v)
        (and_both (eqb (node g m).parent x.parent) (eqb (node g m).counter x.counter) (eq-T _ _ a) (eq-T _ _ b)) c)
        )
    go false e ih =
        let i = eqb-false m k e in
        or_right (same_place (node g k) x && matches (node g k) v) (rival g k x v) (ih (omega arith) a b c)

among-shared : (k : List ℕ) (cs ds : List (List ℕ)) → T (among k cs) → T (among k ds) → T (shared cs ds)
unfolding among shared
among-shared k [] ds h j = absurd h
among-shared k (c ∷ cs) ds h j =
    or_cases (same k c) (among k cs)
    (λ e. or_left (among c ds) (shared cs ds) (rw (same-eq k c e) at j))
    (λ e. or_right (among c ds) (shared cs ds) (among-shared k cs ds e j))
    h

-- one component that both selectors look at and both choose
chosen-together
    : (cs ds : List (List ℕ)) (k : List ℕ) → T (chosen cs k) → T (chosen ds k) → T ((any_of cs || any_of ds) || shared cs ds)
unfolding chosen
chosen-together [] ds k h j = tt
chosen-together (c ∷ cs) [] k h j = tt
chosen-together (c ∷ cs) (d ∷ ds) k h j = among-shared k (c ∷ cs) (d ∷ ds) h j

selects_together
    : (a b : Selector) (v : View) → T (chosen a.codes (v.key a.element a.component))
    → T (chosen b.codes (v.key b.element b.component)) → T (together a b)
unfolding together
selects_together a b v h j = go (eqb a.element b.element) refl (eqb a.component b.component) refl
  where
    go
        : (p : Bool) → eqb a.element b.element ≡ p → (q : Bool) → eqb a.component b.component ≡ q
        → T ((any_of a.codes || any_of b.codes) || (not (p && q) || shared a.codes b.codes))
    go true e true f =
        chosen-together a.codes b.codes (v.key a.element a.component) h
        (rw (eqb-true a.element b.element e, eqb-true a.component b.component f) j)
    go true e false f = or_right (any_of a.codes || any_of b.codes) true tt
    go false e q f = or_right (any_of a.codes || any_of b.codes) true tt

-- two nodes that match one segment overlap
pub matches-overlap : (x y : Node) (v : View) → T (matches x v) → T (matches y v) → T (overlap x y)
unfolding matches overlap
matches-overlap x y v h k =
    let a = and_right (ltb 0 x.limit) _ h in
    let b = and_right (ltb 0 y.limit) _ k in
    let t = same-eq x.tag v.tag (and_left (same x.tag v.tag) _ a) in
    let u = same-eq y.tag v.tag (and_left (same y.tag v.tag) _ b) in
    and_both (ltb 0 x.limit && ltb 0 y.limit) (same x.tag y.tag && together x.selector y.selector)
    (and_both (ltb 0 x.limit) (ltb 0 y.limit) (and_left (ltb 0 x.limit) _ h) (and_left (ltb 0 y.limit) _ k))
    (and_both (same x.tag y.tag) (together x.selector y.selector) (rw (t, u) (same_refl v.tag))
    (selects_together x.selector y.selector v (and_right (same x.tag v.tag) _ a) (and_right (same y.tag v.tag) _ b)))

module _ (g : Guide) where
  rising-row : T (rising g) → (n : ℕ) → n < length g → T ((lower_parent g n && must_takes g n) && every (in_order g n) (length g))
  unfolding rising
  rising-row h n l = every-at _ (length g) n h l

  rising-at : T (rising g) → (n : ℕ) → n < length g → T (lower_parent g n && must_takes g n)
  rising-at h n l = and_left (lower_parent g n && must_takes g n) (every (in_order g n) (length g)) (rising-row h n l)

  rising-numbers
      : T (rising g) → (n m : ℕ) → n < length g → m < length g → (node g n).parent ≡ (node g m).parent → n ≤ m → number_of g n ≤ number_of g m
  rising-numbers h n m l k e o =
      let row = and_right (lower_parent g n && must_takes g n) (every (in_order g n) (length g)) (rising-row h n l) in
      leb→le _ _ (implied (eqb (node g n).parent (node g m).parent && leb n m) (leb (number_of g n) (number_of g m))
      (every-at (in_order g n) (length g) m row k)
      (and_both (eqb (node g n).parent (node g m).parent) (leb n m) (eq-T _ _ e) (le→leb n m o)))

  -- a node that can be required stands in the table
  must-inside : (n : ℕ) → T ((node g n).must || paired g n) → n < length g
  unfolding paired
  must-inside n h = go (ltb n (length g)) refl
    where
      go : (b : Bool) → ltb n (length g) ≡ b → n < length g
      go true e = ltb→lt n (length g) (T_true e)
      go false e =
          let l : length g ≤ n = ltb-false n (length g) e in
          absurd (rw (get_or-eq_default g message l) at h)

  parent-below : T (rising g) → (n : ℕ) → n < length g → T (ltb 0 n || ltb 0 (node g n).limit) → (node g n).parent < n
  parent-below h n l k =
      ltb→lt _ _ (implied (ltb 0 n || ltb 0 (node g n).limit) (ltb (node g n).parent n) (and_left (lower_parent g n) (must_takes g n) (rising-at h n l)) k)

  pub rising-holds : T (rising g) → Rising g
  rising-holds h =
      let takes : (n : ℕ) → T ((node g n).must || paired g n) → 0 < (node g n).limit =
      λ n m.
      let t = rising-at h n (must-inside n m) in
      ltb→lt _ _ (implied ((node g n).must || paired g n) (ltb 0 (node g n).limit) (and_right (lower_parent g n) (must_takes g n) t) m)
      in
      record {
        below = λ n k l. parent-below h n l (or_left (ltb 0 n) (ltb 0 (node g n).limit) (lt→ltb 0 n k));
        rises = λ n l. parent-below h n (in_table g n l) (or_right (ltb 0 n) (ltb 0 (node g n).limit) (lt→ltb 0 (node g n).limit l));
        taking =
            λ n seen.
            required_cases g n seen (λ m. takes n (or_left (node g n).must (paired g n) m))
            (λ m l. takes n (or_right (node g n).must (paired g n) m));
        numbers = rising-numbers h;
      }

  -- walking up from the parent of m, past every instance that m is in
  pub upward-at : (test : ℕ → Bool) (k m y : ℕ) → Under g y m → (node g m).parent < k → T (upward g test k (node g m).parent) → T (test y)
  unfolding upward
  upward-at test zero m y u l h = absurd (omega arith)
  upward-at test (suc k) m y (child e) l h = rw (sym e) (and_left (test (node g m).parent) (upward g test k (node g (node g m).parent).parent) h)
  upward-at test (suc k) m y (deeper {y = z} e r u) l h =
      let h' : T (upward g test k (node g z).parent) =
      rw (sym e) (and_right (test (node g m).parent) (upward g test k (node g (node g m).parent).parent) h)
      in
      upward-at test k z y u (omega arith) h'

  module _ (r : Rising g) (t : T (apart g)) where
    apart-at : (n m : ℕ) (v : View) → T (takes g n v) → T (takes g m v) → T (apart_at g n m)
    unfolding apart
    apart-at n m v a b =
        every-at (apart_at g n) (length g) m (every-at _ (length g) n t (in_table g n (takes-limit g n v a))) (in_table g m (takes-limit g m v b))

    both-apart
        : (n m : ℕ) (v : View) → T (takes g n v) → T (takes g m v)
        → T (one_place g n m && clear g (node g n) (length g) (node g m).parent)
    unfolding apart_at
    both-apart n m v a b =
        implied (overlap (node g n) (node g m)) _ (apart-at n m v a b)
        (matches-overlap (node g n) (node g m) v (takes-matches g n v a) (takes-matches g m v b))

    not_lower : (n m : ℕ) (v : View) → T (takes g n v) → T (takes g m v) → (node g n).parent ≡ (node g m).parent → n < m → ⊥
    not_lower n m v a b e l =
        let place = and_left (one_place g n m) (clear g (node g n) (length g) (node g m).parent) (both-apart n m v a b) in
        let c = implied (eqb (node g n).parent (node g m).parent) _ place (eq-T _ _ e) in
        takes_alone g m v b (rival_make g m n (node g m) v l e (eqb→eq _ _ c) (takes-matches g n v a))

    pub apart-holds : Apart g
    apart-holds =
        record {
          one_node = λ n m v a b e. same_number n m (not_lower n m v a b e) (not_lower m n v b a (sym e));
          outside =
              λ n m x v a b u e c.
              T_not (follows g (node g n) x)
              (upward-at (λ y. not (follows g (node g n) y)) (length g) m x u
              (let z = r.rises m (takes-limit g m v b) in let y = in_table g m (takes-limit g m v b) in omega arith)
              (and_right (one_place g n m) _ (both-apart n m v a b)))
              (and_both (eqb (node g x).parent (node g n).parent) (leb (node g x).counter (node g n).counter) (eq-T _ _ e) (le→leb _ _ c));
        }

  -- where no two nodes of one place overlap, a node takes whatever matches it
  pub distinct-takes : T (distinct g) → (n : ℕ) (v : View) → takes g n v ≡ matches (node g n) v
  unfolding takes distinct same_place
  distinct-takes t n v = go (matches (node g n) v) refl
    where
      alone : T (matches (node g n) v) → T (rival g n (node g n) v) → ⊥
      alone h k =
          let q = rival-one g n (node g n) v k in
          let m = q.lower in
          let i = in_table g n (matches-limit g n v h) in
          let j = in_table g m (matches-limit g m v q.matching) in
          let x = node g m in
          let y = node g n in
          let s = and_both (eqb x.parent y.parent) (eqb x.counter y.counter) (eq-T _ _ q.parents) (eq-T _ _ q.counters) in
          let both = and_both (same_place x y) (overlap x y) s (matches-overlap x y v q.matching h) in
          let test = every-at _ (length g) n (every-at _ (length g) m t j) i in
          let z : m ≡ n = eqb→eq m n (implied (same_place x y && overlap x y) (eqb m n) test both) in
          omega (arith, q.below)

      go : (b : Bool) → matches (node g n) v ≡ b → (b && not (rival g n (node g n) v)) ≡ b
      go true e = rw (false-T (rival g n (node g n) v) (alone (T_true e)))
      go false e = refl

  pub ends-holds : (z : ℕ) → T (ends g z) → Ends g z
  unfolding ends
  ends-holds z t =
      let rest = and_right (eqb (node g z).parent 0) _ t in
      let each : (n : ℕ) → 0 < (node g n).limit → T (not (eqb (node g n).parent z) && earlier g z n) =
      λ n l. every-at (λ n. not (eqb (node g n).parent z) && earlier g z n) (length g) n (and_right (node g z).must _ rest) (in_table g n l)
      in
      record {
        root = eqb→eq (node g z).parent 0 (and_left (eqb (node g z).parent 0) _ t);
        wanted = λ seen. must-required g z seen (and_left (node g z).must _ rest);
        childless = λ n e l. T_not (eqb (node g n).parent z) (and_left (not (eqb (node g n).parent z)) (earlier g z n) (each n l)) (eq-T _ _ e);
        final =
            λ n e l d.
            or_cases (eqb n z) (ltb (node g n).counter (node g z).counter) (λ q. absurd (d (eqb→eq n z q))) (λ q. ltb→lt _ _ q)
            (implied (eqb (node g n).parent 0) _ (and_right (not (eqb (node g n).parent z)) (earlier g z n) (each n l)) (eq-T _ _ e));
      }

  mated-holds : (n q : ℕ) → T (mated g n q) → Mated g n q
  unfolding same_place
  mated-holds n q t =
      let x = node g q in
      let y = node g n in
      let back = and_left (paired g q && eqb x.partner n) _ t in
      let rest = and_right (paired g q && eqb x.partner n) _ t in
      let place = and_left (not (eqb q n) && same_place x y) _ rest in
      let one = and_right (not (eqb q n) && same_place x y) _ rest in
      let shared = and_right (not (eqb q n)) (same_place x y) place in
      record {
        both = and_left (paired g q) (eqb x.partner n) back;
        back = eqb→eq _ _ (and_right (paired g q) (eqb x.partner n) back);
        other = λ e. T_not (eqb q n) (and_left (not (eqb q n)) (same_place x y) place) (eq-T q n e);
        parents = eqb→eq _ _ (and_left (eqb x.parent y.parent) (eqb x.counter y.counter) shared);
        counters = eqb→eq _ _ (and_right (eqb x.parent y.parent) (eqb x.counter y.counter) shared);
        once = eqb→eq _ _ (and_left (eqb y.limit 1) (not y.must) one);
        free = λ m. T_not y.must (and_right (eqb y.limit 1) (not y.must) one) m;
      }

  pub mates-holds : T (mates g) → Pairing g
  unfolding mates
  mates-holds t n h =
      let inside = must-inside n (or_right (node g n).must (paired g n) h) in
      mated-holds n (node g n).partner (implied (paired g n) _ (every-at _ (length g) n t inside) h)

  -- a table that passes the four tests
  pub passing : (z : ℕ) → T (rising g) → T (apart g) → T (ends g z) → T (mates g) → length g ≤ capacity → Passes g z
  passing z r a e m l =
      record {
        rising = rising-holds r;
        apart = apart-holds (rising-holds r) a;
        ends = ends-holds z e;
        pairing = mates-holds m;
        room = l;
      }
