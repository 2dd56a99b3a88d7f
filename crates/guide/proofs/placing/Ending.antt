-- Placing goes through and ends at UNT exactly if the segments are a whole message. For every table that passes the tests, `ends` among them.
use Prim.Native.Nat.{ℕ, ◌+◌, ◌≤◌, ◌<◌}
use mathlib.Core.Path.{◌≡◌, refl, sym, ◌∙◌, ap}
use mathlib.Core.Logic.{◌↔◌}
use mathlib.Core.Bool.{Bool, true, false}
use mathlib.Core.List.{List, map}
use native.Mathlib.Omega.{arith}
use lib.ListN.{length}
use lib.Dec.{T, eqb}
use borrow.Author.Tests.{eqb-true, eqb-false}
use Rattle.guide.specs.Nodes.{View, Guide, node, required}
use Rattle.guide.specs.Tree.{Kids, none, then, one, count, top, Complete, Next, Closed, Open, Whole, Beginning}
use Rattle.guide.specs.workers.Placing.{start, run}
use Rattle.guide.specs.workers.Runs.{GoesTo}
use Rattle.guide.specs.workers.Checks.{Rising, Apart, Ends, Pairing}
use Rattle.guide.proofs.Basics.{one_same, one-other}
use Rattle.guide.proofs.tables.Required.{complete_come, come_complete}
use Rattle.guide.proofs.tables.Tables.{takes-limit}
use Rattle.guide.proofs.placing.Growing.{Begun, closed_open}
use Rattle.guide.proofs.placing.Standing.{last_node, rise}
use Rattle.guide.proofs.placing.Running.{built}
use Rattle.guide.proofs.Fitting.{begun_of, only_one, reached-all}

module _ {A : Type 0} (g : Guide) (view : A → View) where
  -- A whole message is a beginning.
  abbrev pub whole-begins : (ss : List A) → Whole g view ss → Beginning g view ss
  whole-begins ss w =
      record {
        tree = w.tree;
        begun = closed_open g view 0 w.tree w.closed;
        limits = w.limits;
        due = λ m e q i. complete_come g 0 w.tree w.complete m e q;
        same = w.same;
      }

  -- The tree of a whole message is the only one.
  pub only-whole : Rising g → Apart g → (ss : List A) (a b : Whole g view ss) → a.tree ≡ b.tree
  only-whole r x ss a b = only_one g view r x ss (whole-begins ss a) (whole-begins ss b)

module _ {A : Type 0} (g : Guide) (view : A → View) (r : Rising g) (u : ℕ) (ends : Ends g u) where
  limit-of : (p : ℕ) (l : Kids A) (n : ℕ) (s : A) → Next g view p l n s → 0 < (node g n).limit
  limit-of p l n s next = takes-limit g n (view s) next.takes

  -- the innermost open instance below a child is not at the root
  last-inside : (p : ℕ) (f : Kids A) → 0 < p → Open g view p f → (node g (last_node g p f)).parent ≡ 0 → last_node g p f ≡ p
  unfolding Open
  last-inside p none h o e = refl
  last-inside p (then l n s k) h o e =
      let next = o.1 in
      let up = rise g view r n (view s) next.takes in
      let q = last-inside n k (omega arith) o.2 e in
      absurd (omega (arith, ap (λ (x : ℕ). (node g x).parent) q, next.under))

  -- UNT has no children
  childless : (f : Kids A) → Open g view u f → f ≡ none
  unfolding Open
  childless none o = refl
  childless (then l n s k) o =
      let next = o.1 in
      absurd (ends.childless n next.under (limit-of u l n s next))

  -- a beginning that ends at UNT is whole
  whole-tree : Pairing g → (f : Kids A) → Begun g view 0 f → last_node g 0 f ≡ u → Closed g view 0 f × Complete g 0 f
  unfolding Open Closed
  whole-tree pairs none b e = absurd (omega (arith, r.rises u (r.taking u (count {A = A} none) (ends.wanted (count {A = A} none)))))
  whole-tree pairs (then l n s k) b e =
      let o = b.opened in
      let next = o.1 in
      let up = rise g view r n (view s) next.takes in
      let q : u ≡ n = sym e ∙ last-inside n k (omega arith) o.2 (ap (λ (x : ℕ). (node g x).parent) e ∙ ends.root) in
      let bare : k ≡ none = childless k (rw q o.2) in
      let closed : Closed g view n k = rw bare tt in
      let nothing = come_complete g n k pairs o.3 (λ m w v. absurd (ends.childless m (w ∙ sym q) (r.taking m (count k) v))) in
      ((o.0, next, closed, o.3, nothing), come_complete g 0 (then l n s k) pairs b.limits (λ m w v. there q m w v (eqb n m) refl))
    where
      there
          : u ≡ n → (m : ℕ) → (node g m).parent ≡ 0 → T (required g m (count (then l n s k))) → (c : Bool) → eqb n m ≡ c
          → 1 ≤ count l m + one (eqb n m)
      there q m w v true h = omega (arith, one_same n m (eqb-true n m h))
      there q m w v false h =
          let d = eqb-false n m h in
          let before = ends.final m w (r.taking m (count (then l n s k)) v) (λ i. d (sym q ∙ sym i)) in
          b.due m w v (rw (sym q) before)

  -- in children that are closed the counter of one of them is reached
  reached-counter : (p : ℕ) (f : Kids A) (m : ℕ) → Closed g view p f → 1 ≤ count f m → (node g m).counter ≤ top g f
  unfolding Closed
  reached-counter p none m c h = absurd (omega arith)
  reached-counter p (then l n s k) m c h = go (eqb n m) refl (reached-counter p l m c.0)
    where
      go : (b : Bool) → eqb n m ≡ b → (1 ≤ count l m → (node g m).counter ≤ top g l) → (node g m).counter ≤ (node g n).counter
      go true e ih = omega (arith, ap (λ (x : ℕ). (node g x).counter) (eqb-true n m e))
      go false e ih =
          let next = c.1 in
          let i : 1 ≤ count l m = omega (arith, one-other n m (eqb-false n m e)) in
          omega (arith, ih i, next.order)

  -- the last segment of a whole message is an instance of UNT at the root, without children
  ended : (f : Kids A) → Closed g view 0 f → Complete g 0 f → (l : Kids A) × (s : A) × (f ≡ then l u s none)
  unfolding Closed
  ended none c a = absurd (omega (arith, complete_come g 0 none a u ends.root (ends.wanted (count {A = A} none))))
  ended (then l n s k) c a = go (eqb n u) refl
    where
      go : (b : Bool) → eqb n u ≡ b → (h : Kids A) × (t : A) × (then l n s k ≡ then h u t none)
      go true e =
          let q : n ≡ u = eqb-true n u e in
          let bare : k ≡ none = childless k (rw (sym q) (closed_open g view n k c.2)) in
          (l, s, rw (bare, q))
      go false e =
          let next = c.1 in
          let before = ends.final n next.under (limit-of 0 l n s next) (eqb-false n u e) in
          absurd (omega
          (arith, reached-counter 0 (then l n s k) u c (complete_come g 0 (then l n s k) a u ends.root (ends.wanted (count (then l n s k))))))

  pub whole_ended : (ss : List A) (w : Whole g view ss) → (l : Kids A) × (s : A) × (w.tree ≡ then l u s none)
  whole_ended ss w = ended w.tree w.closed w.complete

  module _ (pairs : Pairing g) (a : Apart g) (z : ℕ) (room : length g ≤ z) where
    goes-whole : (ss : List A) → GoesTo g view z u ss → Whole g view ss
    goes-whole ss h =
        let x = reached-all g view r pairs a z room ss h.0 h.1 in
        let w = whole-tree pairs x.tree x.begun (sym x.stands.last ∙ h.2) in
        record { tree = x.tree; closed = w.0; limits = x.begun.limits; complete = w.1; same = x.same }

    whole-goes : (ss : List A) → Whole g view ss → GoesTo g view z u ss
    whole-goes ss w =
        let x = built g view r pairs a z room w.tree (begun_of g view ss (whole-begins g view ss w)) in (
          x.state,
          ap (λ (us : List A). run g 1 (map view us) (start z)) (sym w.same) ∙ x.ran,
          x.stands.last ∙ ap (last_node g 0) (whole_ended ss w).2,
        )

    -- Placing goes through and ends at UNT exactly if the message is whole.
    pub goes-to-whole : (ss : List A) → GoesTo g view z u ss ↔ Whole g view ss
    goes-to-whole ss = (goes-whole ss, whole-goes ss)
