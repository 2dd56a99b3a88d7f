-- A refusal is given exactly when its row says, at the first segment where one does; and nothing that comes later mends it.
use Prim.Native.Nat.{ℕ, ◌+◌, ◌≤◌}
use mathlib.Core.Path.{◌≡◌, sym, ◌∙◌, ap, subst}
use mathlib.Core.Logic.{◌↔◌}
use mathlib.Core.List.{List, ◌∷◌, ◌++◌, map}
use native.Mathlib.Omega.{arith}
use lib.ListN.{length, length-map}
use Rattle.guide.specs.Nodes.{View, Guide}
use Rattle.guide.specs.Tree.{none, Whole, Beginning}
use Rattle.guide.specs.workers.Placing.{place, State, start, fits, fault, run}
use Rattle.guide.specs.Answers.{refused}
use Rattle.guide.specs.Meaning.{Outcome, Stops}
use Rattle.guide.specs.workers.Checks.{Rising, Apart, Pairing}
use Rattle.guide.proofs.Basics.{map-append}
use Rattle.guide.proofs.placing.Growing.{begun-none}
use Rattle.guide.proofs.placing.Standing.{stands-start}
use Rattle.guide.proofs.placing.Outcomes.{outcome}
use Rattle.guide.proofs.placing.Refusing.{one_outcome}
use Rattle.guide.proofs.placing.Running.{fits-fault, fits-same, run_on, broken, built}
use Rattle.guide.proofs.Fitting.{begun_of, goes_beginning, front-begins}
use Rattle.guide.proofs.placing.Ending.{whole-begins}

module _ {A : Type 0} (g : Guide) (view : A → View) (r : Rising g) (pairs : Pairing g) (a : Apart g) (z : ℕ) (room : length g ≤ z) where
  -- What placing answers of the segment after a beginning is what the rows say over the beginning's tree.
  pub answer_means
      : (ss : List A) (b : Beginning g view ss) (st : State) (s : A) → run g 1 (map view ss) (start z) ≡ fits st
      → Outcome g view b.tree s (place g (view s) st.last st.counts)
  answer_means ss b st s h =
      let x = built g view r pairs a z room b.tree (begun_of g view ss b) in
      let e = fits-same x.state st (sym x.ran ∙ (ap (λ (us : List A). run g 1 (map view us) (start z)) b.same ∙ h)) in
      subst (λ (y : State). Outcome g view b.tree s (place g (view s) y.last y.counts)) e
      (outcome g view r pairs b.tree s x.state b.begun x.stands)

  fault-stops : (ss : List A) (k i m : ℕ) → run g 1 (map view ss) (start z) ≡ fault k i m → Stops g view ss k i m
  fault-stops ss k i m h =
      let x = broken g view r pairs 1 ss none (start z) k i m (begun-none g view 0) (stands-start g z room) h in
      record {
        front = x.front;
        segment = x.segment;
        rest = x.rest;
        split = x.split;
        index = omega (arith, x.index);
        begins = record { tree = x.tree; begun = x.begun.opened; limits = x.begun.limits; due = x.begun.due; same = x.same };
        why = x.why;
      }

  stops-fault : (ss : List A) (k i m : ℕ) → Stops g view ss k i m → run g 1 (map view ss) (start z) ≡ fault k i m
  unfolding run
  stops-fault ss k i m x =
      let goes = (goes_beginning g view r pairs a z room x.front).1 x.begins in
      let st = goes.0 in
      let vs = map view x.front in
      let v = view x.segment in
      let told = answer_means x.front x.begins st x.segment goes.1 in
      let tree = x.begins.tree in
      let same : place g v st.last st.counts ≡ refused k m = one_outcome g view r pairs a tree x.segment x.begins.begun _ _ told x.why in
      let whole : map view ss ≡ vs ++ (v ∷ map view x.rest) = ap (map view) x.split ∙ map-append view x.front (x.segment ∷ x.rest) in
      let index : length vs + 1 ≡ i = omega (arith, length-map x.front view, x.index) in
      let there : run g (length vs + 1) (v ∷ map view x.rest) st ≡ fault k (length vs + 1) m = rw same in
      ap (λ (us : List View). run g 1 us (start z)) whole
      ∙ (run_on g 1 vs (v ∷ map view x.rest) (start z) st goes.1 ∙ (there ∙ ap (λ (j : ℕ). fault k j m) index))

  -- A refusal is given exactly when its row says.
  pub fault_means : (ss : List A) (k i m : ℕ) → (run g 1 (map view ss) (start z) ≡ fault k i m) ↔ Stops g view ss k i m
  fault_means ss k i m = (fault-stops ss k i m, stops-fault ss k i m)

  no_beginning : (ss : List A) (k i m : ℕ) → run g 1 (map view ss) (start z) ≡ fault k i m → Beginning g view ss → ⊥
  no_beginning ss k i m h b =
      let goes = (goes_beginning g view r pairs a z room ss).1 b in
      fits-fault goes.0 k i m (sym goes.1 ∙ h)

  -- Nothing that comes later mends a refusal: no message begins with segments that are refused.
  pub nothing_mends : (ss rest : List A) (k i m : ℕ) → run g 1 (map view ss) (start z) ≡ fault k i m → Whole g view (ss ++ rest) → ⊥
  nothing_mends ss rest k i m h w = no_beginning ss k i m h (front-begins g view r pairs a z room ss rest (whole-begins g view (ss ++ rest) w))
