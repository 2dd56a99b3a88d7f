-- A run over segments and the tree that it builds: a run that goes through builds a beginning, one that stops has built the beginning before
-- the fault, and every beginning is built.
use Prim.Native.Nat.{ℕ, zero, suc, ◌+◌, ◌≤◌}
use mathlib.Core.Path.{◌≡◌, refl, sym, ◌∙◌, ap, subst}
use mathlib.Core.List.{List, [], ◌∷◌, ◌++◌, map, append-nil, append_assoc}
use native.Mathlib.Nat.{le_refl}
use native.Mathlib.Omega.{arith}
use lib.ListN.{length, length-append}
use lib.Dec.{T}
use Rattle.guide.specs.Nodes.{View, Guide, takes}
use Rattle.guide.specs.Tree.{Kids, none, then, Given, segs, giving, assigned}
use Rattle.guide.specs.Steps.{Claim, Possible, At, add, Fresh}
use Rattle.guide.specs.workers.Placing.{place, State, start, after, fits, fault, follow, run, give, given}
use Rattle.guide.specs.Answers.{Answer, placed, refused}
use Rattle.guide.specs.Meaning.{Outcome, moved}
use Rattle.guide.specs.workers.Checks.{Rising, Apart, Pairing}
use Rattle.guide.proofs.Basics.{map-append}
use Rattle.guide.proofs.placing.Growing.{assigned-add, segs-add, Begun, sound, Grown, grown}
use Rattle.guide.proofs.placing.Meeting.{meet}
use Rattle.guide.proofs.placing.Standing.{Stands, stands-start, stands-add}
use Rattle.guide.proofs.placing.Outcomes.{outcome}
use Rattle.guide.proofs.placing.Refusing.{barred}

pub fits-fault : (st : State) (k i m : ℕ) → fits st ≡ fault k i m → ⊥
fits-fault st k i m e = let z : ◌≡◌ {A = ℕ} 0 1 = cc in omega arith

pub fits-same : (a b : State) → fits a ≡ fits b → a ≡ b
fits-same a b e = cc

nodes_add
    : {A : Type 0} {F : Claim A} {p : ℕ} {f : Kids A} {n : ℕ} (d : At F p f n) (s : A)
    → map (λ (x : Given A). x.node) (assigned (add d s)) ≡ map (λ (x : Given A). x.node) (assigned f) ++ (n ∷ [])
nodes_add {A = A} {f = f} {n = n} d s =
    ap (map (λ (x : Given A). x.node)) (assigned-add d s) ∙ map-append (λ (x : Given A). x.node) (assigned f) (giving n s ∷ [])

module _ (g : Guide) where
  -- a run over more segments goes on where the first have gone through
  pub run_on
      : (i : ℕ) (vs ws : List View) (st st' : State) → run g i vs st ≡ fits st' → run g i (vs ++ ws) st ≡ run g (length vs + i) ws st'
  unfolding run
  run_on i [] ws st st' h =
      let e : 0 + i ≡ i = omega arith in
      rw (e, fits-same st st' h)
  run_on i (v ∷ vs) ws st st' h = go (place g v st.last st.counts) h (run_on (suc i) vs ws)
    where
      go
          : (a : Answer) → follow i a (run g (suc i) vs (after g a st)) ≡ fits st'
          → ((s s' : State) → run g (suc i) vs s ≡ fits s' → run g (suc i) (vs ++ ws) s ≡ run g (length vs + suc i) ws s')
          → follow i a (run g (suc i) (vs ++ ws) (after g a st)) ≡ run g (suc (length vs) + i) ws st'
      go (placed n) e ih =
          let q : suc (length vs) + i ≡ length vs + suc i = omega arith in
          rw q (ih (after g (placed n) st) st' e)
      go (refused k m) e ih = absurd (fits-fault st' k i m (sym e))

  -- and stops where they have stopped
  pub run_stopped
      : (i : ℕ) (vs ws : List View) (st : State) (k j m : ℕ) → run g i vs st ≡ fault k j m → run g i (vs ++ ws) st ≡ fault k j m
  unfolding run
  run_stopped i [] ws st k j m h = absurd (fits-fault st k j m h)
  run_stopped i (v ∷ vs) ws st k j m h = go (place g v st.last st.counts) h (λ s. run_stopped (suc i) vs ws s k j m)
    where
      go
          : (a : Answer) → follow i a (run g (suc i) vs (after g a st)) ≡ fault k j m
          → ((s : State) → run g (suc i) vs s ≡ fault k j m → run g (suc i) (vs ++ ws) s ≡ fault k j m)
          → follow i a (run g (suc i) (vs ++ ws) (after g a st)) ≡ fault k j m
      go (placed n) e ih = ih (after g (placed n) st) e
      go (refused k' m') e ih = e

  -- and so for the nodes given
  pub given_on
      : (i : ℕ) (vs ws : List View) (st st' : State) → run g i vs st ≡ fits st' → given g (vs ++ ws) st ≡ given g vs st ++ given g ws st'
  unfolding run given
  given_on i [] ws st st' h = rw (fits-same st st' h)
  given_on i (v ∷ vs) ws st st' h = go (place g v st.last st.counts) h (given_on (suc i) vs ws)
    where
      go
          : (a : Answer) → follow i a (run g (suc i) vs (after g a st)) ≡ fits st'
          → ((s s' : State) → run g (suc i) vs s ≡ fits s' → given g (vs ++ ws) s ≡ given g vs s ++ given g ws s')
          → give a (given g (vs ++ ws) (after g a st)) ≡ give a (given g vs (after g a st)) ++ given g ws st'
      go (placed n) e ih = ap (λ (ns : List ℕ). n ∷ ns) (ih (after g (placed n) st) st' e)
      go (refused k m) e ih = absurd (fits-fault st' k i m (sym e))

module _ {A : Type 0} (g : Guide) (view : A → View) (r : Rising g) (pairs : Pairing g) where
  fresh-might : Possible {A = A} g (Fresh g)
  fresh-might p f n h = h.might

  -- the tree f with the segments ss after it, and the state that stands for it
  pub record Reached (f : Kids A) (ss : List A) (st : State) : Type 0 where
    pub tree : Kids A
    pub begun : Begun g view 0 tree
    pub stands : Stands g tree st
    pub same : segs tree ≡ segs f ++ ss

  pub reached
      : (i : ℕ) (ss : List A) (f : Kids A) (st st' : State) → Begun g view 0 f → Stands g f st → run g i (map view ss) st ≡ fits st'
      → Reached f ss st'
  unfolding run
  reached i [] f st st' b z h =
      record { tree = f; begun = b; stands = subst (λ (x : State). Stands g f x) (fits-same st st' h) z; same = sym (append-nil (segs f)) }
  reached i (s ∷ ss) f st st' b z h =
      go (place g (view s) st.last st.counts) (outcome g view r pairs f s st b.opened z) h (λ x y. reached (suc i) ss x y st')
    where
      go
          : (a : Answer) → Outcome g view f s a → follow i a (run g (suc i) (map view ss) (after g a st)) ≡ fits st'
          → ((x : Kids A) (y : State) → Begun g view 0 x → Stands g x y → run g (suc i) (map view ss) y ≡ fits st' → Reached x ss st')
          → Reached f (s ∷ ss) st'
      go (placed n) (moved t d) e ih =
          let x =
          ih (add d s) (after g (placed n) st) (sound g view pairs 0 f n s b d t) (stands-add g view r (Fresh g) fresh-might f st n s d t b.opened z) e
          in
          record {
            tree = x.tree;
            begun = x.begun;
            stands = x.stands;
            same = x.same ∙ (ap (λ (us : List A). us ++ ss) (segs-add d s) ∙ append_assoc (segs f) (s ∷ []) ss);
          }
      go (refused k m) w e ih = absurd (fits-fault st' k i m (sym e))

  -- the tree before the fault, and the fault
  pub record Broken (f : Kids A) (i : ℕ) (ss : List A) (k j m : ℕ) : Type 0 where
    pub front : List A
    pub segment : A
    pub rest : List A
    pub split : ss ≡ front ++ (segment ∷ rest)
    pub index : j ≡ length front + i
    pub tree : Kids A
    pub begun : Begun g view 0 tree
    pub same : segs tree ≡ segs f ++ front
    pub why : Outcome g view tree segment (refused k m)

  pub broken
      : (i : ℕ) (ss : List A) (f : Kids A) (st : State) (k j m : ℕ) → Begun g view 0 f → Stands g f st → run g i (map view ss) st ≡ fault k j m
      → Broken f i ss k j m
  unfolding run
  broken i [] f st k j m b z h = absurd (fits-fault st k j m h)
  broken i (s ∷ ss) f st k j m b z h =
      go (place g (view s) st.last st.counts) (outcome g view r pairs f s st b.opened z) h (λ x y. broken (suc i) ss x y k j m)
    where
      go
          : (a : Answer) → Outcome g view f s a → follow i a (run g (suc i) (map view ss) (after g a st)) ≡ fault k j m
          → ((x : Kids A) (y : State) → Begun g view 0 x → Stands g x y → run g (suc i) (map view ss) y ≡ fault k j m → Broken x (suc i) ss k j m)
          → Broken f i (s ∷ ss) k j m
      go (placed n) (moved t d) e ih =
          let x =
          ih (add d s) (after g (placed n) st) (sound g view pairs 0 f n s b d t) (stands-add g view r (Fresh g) fresh-might f st n s d t b.opened z) e
          in
          record {
            front = s ∷ x.front;
            segment = x.segment;
            rest = x.rest;
            split = ap (λ (us : List A). s ∷ us) x.split;
            index = omega (arith, x.index);
            tree = x.tree;
            begun = x.begun;
            same = x.same ∙ (ap (λ (us : List A). us ++ x.front) (segs-add d s) ∙ append_assoc (segs f) (s ∷ []) x.front);
            why = x.why;
          }
      go (refused k' m') w e ih =
          let a : k' ≡ k = cc in
          let c : m' ≡ m = cc in
          let q : i ≡ j = cc in
          record {
            front = [];
            segment = s;
            rest = ss;
            split = refl;
            index = omega arith;
            tree = f;
            begun = b;
            same = sym (append-nil (segs f));
            why = rw (sym a, sym c) w;
          }

  module _ (a : Apart g) (z : ℕ) (room : length g ≤ z) where
    -- a tree that the run has built
    pub record Built (f : Kids A) : Type 0 where
      pub state : State
      pub ran : run g 1 (map view (segs f)) (start z) ≡ fits state
      pub stands : Stands g f state
      pub gave : given g (map view (segs f)) (start z) ≡ map (λ (x : Given A). x.node) (assigned f)

    built_none : Built none
    unfolding run given
    built_none = record { state = start z; ran = refl; stands = stands-start g z room; gave = refl }

    -- one segment more
    built_step
        : (f : Kids A) (n : ℕ) (s : A) (d : At (Fresh g) 0 f n) → Begun g view 0 f → T (takes g n (view s)) → Built f → Built (add d s)
    unfolding run given
    built_step f n s d b t x = go (place g (view s) x.state.last x.state.counts) (outcome g view r pairs f s x.state b.opened x.stands) refl
      where
        all : map view (segs (add d s)) ≡ map view (segs f) ++ (view s ∷ [])
        all = ap (map view) (segs-add d s) ∙ map-append view (segs f) (s ∷ [])

        go : (y : Answer) → Outcome g view f s y → place g (view s) x.state.last x.state.counts ≡ y → Built (add d s)
        go (placed m) (moved u e) q =
            let st = x.state in
            let w = meet g view r a (view s) (Fresh g) (Fresh g) fresh-might fresh-might 0 f n m d e b.opened t u in
            record {
              state = after g (placed m) st;
              ran = ap (λ (us : List View). run g 1 us (start z)) all ∙ (run_on g 1 (map view (segs f)) (view s ∷ []) (start z) st x.ran ∙ rw q);
              stands =
                  subst (λ (h : Kids A). Stands g h (after g (placed m) st)) (sym (w.tree s))
                  (stands-add g view r (Fresh g) fresh-might f st m s e u b.opened x.stands);
              gave =
                  ap (λ (us : List View). given g us (start z)) all
                  ∙ (given_on g 1 (map view (segs f)) (view s ∷ []) (start z) st x.ran
                  ∙ (rw (q, x.gave, sym w.number) (sym (nodes_add d s))));
            }
        go (refused k m) w q = absurd (barred g view r pairs a f s b.opened w n t d)

    abbrev BuiltTo : ℕ → Type 0
    BuiltTo c = (f : Kids A) → length (segs f) ≤ c → Begun g view 0 f → Built f

    built_grown : (c : ℕ) → BuiltTo c → (f : Kids A) → Grown g view 0 f → length (segs f) ≤ suc c → Built f
    built_grown c ih f x l =
        let e : segs f ≡ segs x.before ++ (x.segment ∷ []) = ap segs (sym x.same) ∙ segs-add x.step x.segment in
        let shorter : length (segs x.before) ≤ c = omega (arith, ap length e, length-append (segs x.before) (x.segment ∷ [])) in
        subst Built x.same (built_step x.before x.number x.segment x.step x.begun x.takes (ih x.before shorter x.begun))

    built_more : (c : ℕ) → BuiltTo c → BuiltTo (suc c)
    built_more c ih none i b = built_none
    built_more c ih (then l n s k) i b = built_grown c ih (then l n s k) (grown g view 0 l n s k b) i

    built_zero : BuiltTo zero
    built_zero none i b = built_none
    built_zero (then l n s k) i b = absurd (omega (arith, length-append (segs l) (s ∷ segs k)))

    built_to : (c : ℕ) → BuiltTo c
    built_to zero = built_zero
    built_to (suc c) = built_more c (built_to c)

    -- every beginning is built
    pub built : (f : Kids A) → Begun g view 0 f → Built f
    built f b = built_to (length (segs f)) f (le_refl (length (segs f))) b
