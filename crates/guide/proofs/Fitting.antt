-- Placing goes through exactly if the segments are a beginning of a message; the tree is the only one; a front of a beginning is a
-- beginning. For every table that passes the tests `rising`, `mates` and `apart`, over any type of segments.
use Prim.Native.Nat.{ℕ, ◌≤◌}
use mathlib.Core.Path.{◌≡◌, refl, sym, ◌∙◌, ap}
use mathlib.Core.Logic.{◌↔◌}
use mathlib.Core.List.{List, ◌++◌, map}
use lib.ListN.{length}
use Rattle.guide.specs.Nodes.{View, Guide}
use Rattle.guide.specs.Tree.{none, Given, assigned, Beginning}
use Rattle.guide.specs.workers.Placing.{State, start, Ran, fits, fault, run, given}
use Rattle.guide.specs.workers.Runs.{Goes}
use Rattle.guide.specs.workers.Checks.{Rising, Apart, Pairing}
use Rattle.guide.proofs.Basics.{map-append}
use Rattle.guide.proofs.placing.Growing.{Begun, begun-none}
use Rattle.guide.proofs.placing.Meeting.{one-tree}
use Rattle.guide.proofs.placing.Standing.{stands-start}
use Rattle.guide.proofs.placing.Running.{fits-fault, run_stopped, Reached, reached, built}

module _ {A : Type 0} (g : Guide) (view : A → View) where
  pub begun_of : (ss : List A) (b : Beginning g view ss) → Begun g view 0 b.tree
  begun_of ss b = record { opened = b.begun; limits = b.limits; due = b.due }

  -- The tree is the only one.
  pub only_one : Rising g → Apart g → (ss : List A) (a b : Beginning g view ss) → a.tree ≡ b.tree
  only_one r x ss a b = one-tree g view r x a.tree b.tree (begun_of ss a) (begun_of ss b) (a.same ∙ sym b.same)

module _ {A : Type 0} (g : Guide) (view : A → View) (r : Rising g) (pairs : Pairing g) (a : Apart g) (z : ℕ) (room : length g ≤ z) where
  pub reached-all : (ss : List A) (st : State) → run g 1 (map view ss) (start z) ≡ fits st → Reached g view r pairs none ss st
  reached-all ss st h = reached g view r pairs 1 ss none (start z) st (begun-none g view 0) (stands-start g z room) h

  goes-begins : (ss : List A) → Goes g view z ss → Beginning g view ss
  goes-begins ss h =
      let x = reached-all ss h.0 h.1 in
      record { tree = x.tree; begun = x.begun.opened; limits = x.begun.limits; due = x.begun.due; same = x.same }

  begins-goes : (ss : List A) → Beginning g view ss → Goes g view z ss
  begins-goes ss b =
      let x = built g view r pairs a z room b.tree (begun_of g view ss b) in
      (x.state, ap (λ (us : List A). run g 1 (map view us) (start z)) (sym b.same) ∙ x.ran)

  -- Placing goes through exactly if the segments are a beginning.
  pub goes_beginning : (ss : List A) → Goes g view z ss ↔ Beginning g view ss
  goes_beginning ss = (goes-begins ss, begins-goes ss)

  -- The nodes that placing gives are the tree's.
  pub given-assigned
      : (ss : List A) (b : Beginning g view ss) → given g (map view ss) (start z) ≡ map (λ (x : Given A). x.node) (assigned b.tree)
  given-assigned ss b =
      let x = built g view r pairs a z room b.tree (begun_of g view ss b) in
      ap (λ (us : List A). given g (map view us) (start z)) (sym b.same) ∙ x.gave

  front_goes : (ss rest : List A) → Goes g view z (ss ++ rest) → Goes g view z ss
  front_goes ss rest h = go (run g 1 (map view ss) (start z)) refl
    where
      go : (x : Ran) → run g 1 (map view ss) (start z) ≡ x → Goes g view z ss
      go (fits st) e = (st, e)
      go (fault k i m) e =
          let apart = ap (λ (us : List View). run g 1 us (start z)) (map-append view ss rest) in
          let stopped = run_stopped g 1 (map view ss) (map view rest) (start z) k i m e in
          absurd (fits-fault h.0 k i m (sym h.1 ∙ (apart ∙ stopped)))

  -- A front of a beginning is a beginning.
  pub front-begins : (ss rest : List A) → Beginning g view (ss ++ rest) → Beginning g view ss
  front-begins ss rest b = goes-begins ss (front_goes ss rest (begins-goes (ss ++ rest) b))
