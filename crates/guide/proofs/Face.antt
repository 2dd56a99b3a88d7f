-- The face of placing: a law for each way that code over the last node and a row of counts can answer.
use Prim.Native.Nat.{ℕ, zero, suc, ◌≤◌, ◌<◌}
use mathlib.Core.Path.{◌≡◌, refl}
use mathlib.Core.Bool.{Bool, true, false, and-false}
use mathlib.Core.List.{List}
use native.Mathlib.Omega.{arith}
use lib.Dec.{eqb, ltb}
use borrow.Author.Tests.{eq-eqb, ne_eqb, lt-ltb, le-ltb, le-leb, lt-leb}
use Rattle.guide.specs.Nodes.{View, Guide, node, matches, required, over}
use Rattle.guide.specs.workers.Placing.{first_node, Level, levels, fits_in, seek, tally, lacking, missing, place}
use Rattle.guide.specs.Answers.{placed, refused}
use Rattle.guide.specs.Choices.{pickℕ}
use Rattle.guide.proofs.Basics.{or_else-some}

-- the test at one node, when the node that takes the segment is looked for
module _ (g : Guide) (v : View) (p c n : ℕ) where
  pub fits_elsewhere : ((node g n).parent ≡ p → ⊥) → fits_in g v p c n ≡ false
  unfolding fits_in
  fits_elsewhere d = rw (ne_eqb (node g n).parent p d)

  pub fits-passed : (node g n).counter < c → fits_in g v p c n ≡ false
  unfolding fits_in
  fits-passed h = rw (lt-leb c (node g n).counter h, and-false)

  pub fits_matching : (node g n).parent ≡ p → c ≤ (node g n).counter → fits_in g v p c n ≡ matches (node g n) v
  unfolding fits_in
  fits_matching e h = rw (eq-eqb (node g n).parent p e, le-leb c (node g n).counter h)

-- the test at one node, when the missing node is looked for
module _ (g : Guide) (cs : List ℕ) (n p m : ℕ) where
  pub lacking_elsewhere : ((node g m).parent ≡ p → ⊥) → lacking g cs n p m ≡ false
  unfolding lacking
  lacking_elsewhere d = rw (ne_eqb (node g m).parent p d)

  pub lacking-optional : required g m (tally cs) ≡ false → lacking g cs n p m ≡ false
  unfolding lacking
  lacking-optional e = rw (e, and-false)

  pub lacking_come : (tally cs m ≡ 0 → ⊥) → lacking g cs n p m ≡ false
  unfolding lacking
  lacking_come d = rw (ne_eqb (tally cs m) 0 d, and-false, and-false)

  module _ (e : (node g m).parent ≡ p) (q : required g m (tally cs) ≡ true) (z : tally cs m ≡ 0) where
    pub lacking-closed : (p ≡ (node g n).parent → ⊥) → lacking g cs n p m ≡ true
    unfolding lacking
    lacking-closed d = rw (eq-eqb (node g m).parent p e, q, eq-eqb (tally cs m) 0 z, ne_eqb p (node g n).parent d)

    pub lacking-taking : p ≡ (node g n).parent → lacking g cs n p m ≡ ltb (node g m).counter (node g n).counter
    unfolding lacking
    lacking-taking h = rw (eq-eqb (node g m).parent p e, q, eq-eqb (tally cs m) 0 z, eq-eqb p (node g n).parent h)

-- the search for the node, at one level and then outward
module _ (g : Guide) (v : View) (k p c : ℕ) where
  pub seek_found : (n : ℕ) → first_node g (fits_in g v p c) ≡ n → 0 < n → seek g v (levels g (suc k) p c) ≡ n
  unfolding seek levels
  seek_found n e h = rw e (or_else-some n _ h)

  pub seek-root : first_node g (fits_in g v p c) ≡ 0 → p ≡ 0 → seek g v (levels g (suc k) p c) ≡ 0
  unfolding seek levels
  seek-root e z = rw (e, eq-eqb p 0 z)

  pub seek_up
      : first_node g (fits_in g v p c) ≡ 0 → (p ≡ 0 → ⊥)
      → seek g v (levels g (suc k) p c) ≡ seek g v (levels g k (node g p).parent (node g p).counter)
  unfolding seek levels
  seek_up e z = rw (e, ne_eqb p 0 z)

-- the search for the missing node does not look at the counters reached
pub missing-any : (g : Guide) (cs : List ℕ) (n k p c d : ℕ) → missing g cs n (levels g k p c) ≡ missing g cs n (levels g k p d)
unfolding missing levels
missing-any g cs n zero p c d = refl
missing-any g cs n (suc k) p c d = refl

-- the search for the missing node, at one level and then outward
module _ (g : Guide) (cs : List ℕ) (n k p c : ℕ) where
  pub missing-found : (m : ℕ) → first_node g (lacking g cs n p) ≡ m → 0 < m → missing g cs n (levels g (suc k) p c) ≡ m
  unfolding missing levels
  missing-found m e h = rw e (or_else-some m _ h)

  -- the level that takes the segment is the last
  pub missing-here : first_node g (lacking g cs n p) ≡ 0 → p ≡ (node g n).parent → missing g cs n (levels g (suc k) p c) ≡ 0
  unfolding missing levels
  missing-here e z = rw (e, eq-eqb p (node g n).parent z)

  pub missing-root : first_node g (lacking g cs n p) ≡ 0 → p ≡ 0 → missing g cs n (levels g (suc k) p c) ≡ 0
  unfolding missing levels
  missing-root e z = rw (e, eq-eqb p 0 z) (go (eqb p (node g n).parent))
    where
      go : (b : Bool) → pickℕ b 0 0 ≡ 0
      go true = refl
      go false = refl

  pub missing_up
      : first_node g (lacking g cs n p) ≡ 0 → (p ≡ 0 → ⊥) → (p ≡ (node g n).parent → ⊥)
      → missing g cs n (levels g (suc k) p c) ≡ missing g cs n (levels g k (node g p).parent (node g p).counter)
  unfolding missing levels
  missing_up e z d = rw (e, ne_eqb p (node g n).parent d, ne_eqb p 0 z)

-- the answer
module _ (g : Guide) (v : View) (last : ℕ) (cs : List ℕ) where
  abbrev pub open_levels : List Level
  open_levels = levels g (suc last) last 0

  pub place_none : seek g v open_levels ≡ 0 → place g v last cs ≡ refused 13 0
  unfolding place
  place_none e = rw e

  module _ (n : ℕ) (e : seek g v open_levels ≡ n) (some : 0 < n) where
    pub place-over : (node g n).limit ≤ tally cs n → place g v last cs ≡ refused (over g n (tally cs)) n
    unfolding place
    place-over h =
        let d : (n ≡ 0) → ⊥ = λ q. omega arith in
        rw (e, ne_eqb n 0 d, le-ltb (tally cs n) (node g n).limit h)

    pub place-missing : tally cs n < (node g n).limit → (m : ℕ) → missing g cs n open_levels ≡ m → 0 < m → place g v last cs ≡ refused 14 m
    unfolding place
    place-missing h m q i =
        let d : (n ≡ 0) → ⊥ = λ q. omega arith in
        let d' : (m ≡ 0) → ⊥ = λ q. omega arith in
        rw (e, ne_eqb n 0 d, lt-ltb (tally cs n) (node g n).limit h, q, ne_eqb m 0 d')

    pub place-moved : tally cs n < (node g n).limit → missing g cs n open_levels ≡ 0 → place g v last cs ≡ placed n
    unfolding place
    place-moved h q =
        let d : (n ≡ 0) → ⊥ = λ q. omega arith in
        rw (e, ne_eqb n 0 d, lt-ltb (tally cs n) (node g n).limit h, q)
