-- The laws of placing that the layers above cite: what a placed segment's node is, and a step of a run.
use Prim.Native.Nat.{ℕ, suc, ◌<◌}
use mathlib.Core.Path.{◌≡◌, refl, sym}
use mathlib.Core.Bool.{Bool, true, false, cond}
use mathlib.Core.List.{List, ◌∷◌}
use native.Mathlib.Omega.{arith}
use lib.ListN.{length, get_or}
use lib.Dec.{eqb, ltb}
use borrow.Author.Tests.{eqb-false}
use Rattle.guide.specs.Nodes.{View, Guide, node, over}
use Rattle.guide.specs.Answers.{placed, refused}
use Rattle.guide.specs.workers.Placing.{levels, seek, missing, place, counts_after, last_after, State, fault, run}
use Rattle.guide.specs.declared.edition.Edition.{Edition}
use Rattle.guide.specs.Editions.{guide_of}
use Rattle.guide.proofs.Options.{some_unless_0}
use Rattle.judge.proofs.placing.Outcomes.{found_inside}

-- an answer that is a node is the one that was sought, and one was found
placed_only
    : (n k m : ℕ) (some room full : Bool) (r : ℕ)
    → cond some (refused 13 0) (cond room (cond full (placed n) (refused 14 m)) (refused k n)) ≡ placed r
    → (some ≡ false) × (n ≡ r)
placed_only n k m true room full r h =
    let z : ◌≡◌ {A = ℕ} 0 1 = cc in
    absurd (omega arith)
placed_only n k m false false full r h =
    let z : ◌≡◌ {A = ℕ} 0 1 = cc in
    absurd (omega arith)
placed_only n k m false true false r h =
    let z : ◌≡◌ {A = ℕ} 0 1 = cc in
    absurd (omega arith)
placed_only n k m false true true r h = (refl, cc)

module _ (e : Edition) (v : View) (last : ℕ) (cs : List ℕ) (n : ℕ) (h : place (guide_of e) v last cs ≡ placed n) where
  sought : ℕ
  sought = seek (guide_of e) v (levels (guide_of e) (suc last) last 0)

  found : (eqb sought 0 ≡ false) × (sought ≡ n)
  unfolding place sought
  found =
      placed_only sought (over (guide_of e) sought (λ m. get_or cs m 0)) (missing (guide_of e) cs sought (levels (guide_of e) (suc last) last 0)) (eqb sought 0)
      (ltb (get_or cs sought 0) (node (guide_of e) sought).limit) (eqb (missing (guide_of e) cs sought (levels (guide_of e) (suc last) last 0)) 0) n h

  -- the node of a placed segment is one of the table
  pub placed_some : 0 < n
  placed_some =
      let z = eqb-false sought 0 found.0 in
      let q = found.1 in
      omega arith

  pub placed_inside : n < length (guide_of e)
  unfolding sought
  placed_inside =
      let s = placed_some in
      found_inside e v last n (some_unless_0 n _ (sym found.1) (λ z. omega arith))

-- a step of a run
module _ (g : Guide) (i : ℕ) (v : View) (vs : List View) (st : State) where
  pub run_placed
      : (n : ℕ) → place g v st.last st.counts ≡ placed n
      → run g i (v ∷ vs) st ≡ run g (suc i) vs (record { last = n; counts = counts_after g (placed n) st.counts })
  unfolding run last_after
  run_placed n h = rw h

  pub run_refused : (k m : ℕ) → place g v st.last st.counts ≡ refused k m → run g i (v ∷ vs) st ≡ fault k i m
  unfolding run
  run_refused k m h = rw h
