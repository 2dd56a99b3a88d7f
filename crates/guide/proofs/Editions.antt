-- The two editions of PRICAT pass the tests, so every theorem holds of them. The theorems once more, for any table that passes.
use Prim.Native.Nat.{ℕ}
use mathlib.Core.Path.{◌≡◌}
use mathlib.Core.Logic.{◌↔◌}
use mathlib.Core.List.{List, ◌++◌, map}
use lib.Dec.{T, lit≤}
use Rattle.guide.specs.Nodes.{View, Guide, capacity, node, among, matches, same_place, takes, paired, number_of}
use Rattle.plain.specs.Plain.{same}
use Rattle.guide.specs.Pricat.{pricat20d, pricat20c}
use Rattle.guide.specs.Tree.{Whole, Beginning}
use Rattle.guide.specs.workers.Placing.{start, fault, run}
use Rattle.guide.specs.Meaning.{Stops}
use Rattle.guide.specs.workers.Runs.{Goes, GoesTo}
use Rattle.guide.specs.workers.Checks.{every, rising, shared, together, overlap, upward, apart_at, apart, distinct, ends, mates, Passes}
use Rattle.guide.proofs.tables.Tables.{passing, distinct-takes}
use Rattle.guide.proofs.Fitting.{only_one, goes_beginning, front-begins}
use Rattle.guide.proofs.placing.Ending.{only-whole, goes-to-whole}
use Rattle.guide.proofs.placing.Faults.{fault_means, nothing_mends}

rising_20d : T (rising pricat20d)
unfolding pricat20d rising every paired number_of
rising_20d = tt

apart_20d : T (apart pricat20d)
unfolding pricat20d apart every same among shared together overlap upward apart_at
apart_20d = tt

ends_20d : T (ends pricat20d 26)
unfolding pricat20d ends every
ends_20d = tt

mates_20d : T (mates pricat20d)
unfolding pricat20d mates every paired same_place
mates_20d = tt

pub pricat20d_passes : Passes pricat20d 26
unfolding pricat20d
pricat20d_passes = passing pricat20d 26 rising_20d apart_20d ends_20d mates_20d (lit≤ tt)

rising_20c : T (rising pricat20c)
unfolding pricat20c rising every paired number_of
rising_20c = tt

apart_20c : T (apart pricat20c)
unfolding pricat20c apart every same among shared together overlap upward apart_at
apart_20c = tt

ends_20c : T (ends pricat20c 24)
unfolding pricat20c ends every
ends_20c = tt

mates_20c : T (mates pricat20c)
unfolding pricat20c mates every paired same_place
mates_20c = tt

pub pricat20c_passes : Passes pricat20c 24
unfolding pricat20c
pricat20c_passes = passing pricat20c 24 rising_20c apart_20c ends_20c mates_20c (lit≤ tt)

-- no two nodes of one place can take the same segment
pub pricat20d-distinct : (n : ℕ) (v : View) → takes pricat20d n v ≡ matches (node pricat20d n) v
unfolding pricat20d distinct every same among shared together overlap same_place
pricat20d-distinct = distinct-takes pricat20d tt

pub pricat20c-distinct : (n : ℕ) (v : View) → takes pricat20c n v ≡ matches (node pricat20c n) v
unfolding pricat20c distinct every same among shared together overlap same_place
pricat20c-distinct = distinct-takes pricat20c tt

module _ {A : Type 0} (g : Guide) (u : ℕ) (p : Passes g u) (view : A → View) where
  -- placing goes through and ends at UNT exactly if the segments are a whole message
  pub whole_iff : (ss : List A) → GoesTo g view capacity u ss ↔ Whole g view ss
  whole_iff ss = goes-to-whole g view p.rising u p.ends p.pairing p.apart capacity p.room ss

  -- placing goes through exactly if they are a beginning
  pub beginning_iff : (ss : List A) → Goes g view capacity ss ↔ Beginning g view ss
  beginning_iff ss = goes_beginning g view p.rising p.pairing p.apart capacity p.room ss

  -- a refusal is given exactly when its row says, at the first segment where one does
  pub fault_iff : (ss : List A) (k i m : ℕ) → (run g 1 (map view ss) (start capacity) ≡ fault k i m) ↔ Stops g view ss k i m
  fault_iff ss k i m = fault_means g view p.rising p.pairing p.apart capacity p.room ss k i m

  -- nothing that comes later mends it
  pub never_mended : (ss rest : List A) (k i m : ℕ) → Stops g view ss k i m → Whole g view (ss ++ rest) → ⊥
  never_mended ss rest k i m x = nothing_mends g view p.rising p.pairing p.apart capacity p.room ss rest k i m ((fault_iff ss k i m).1 x)

  -- a front of a beginning is a beginning
  pub front : (ss rest : List A) → Beginning g view (ss ++ rest) → Beginning g view ss
  front ss rest b = front-begins g view p.rising p.pairing p.apart capacity p.room ss rest b

  -- the tree is the only one
  pub one_beginning : (ss : List A) (a b : Beginning g view ss) → a.tree ≡ b.tree
  one_beginning ss a b = only_one g view p.rising p.apart ss a b

  pub one-whole : (ss : List A) (a b : Whole g view ss) → a.tree ≡ b.tree
  one-whole ss a b = only-whole g view p.rising p.apart ss a b

-- demand 2's structural half, for each edition
pub whole_20d : {A : Type 0} (view : A → View) (ss : List A) → GoesTo pricat20d view capacity 26 ss ↔ Whole pricat20d view ss
whole_20d view ss = whole_iff pricat20d 26 pricat20d_passes view ss

pub whole_20c : {A : Type 0} (view : A → View) (ss : List A) → GoesTo pricat20c view capacity 24 ss ↔ Whole pricat20c view ss
whole_20c view ss = whole_iff pricat20c 24 pricat20c_passes view ss
