-- Computed tests of a guide's table, and the properties that they give: shown once, for every table that passes (proofs/tables/Tables).
use Rattle.std.specs.Prelude.{ℕ, zero, suc, ◌≤◌, ◌<◌, ◌≡◌, Bool, true, false, not, ◌&&◌, ◌||◌, List, [], ◌∷◌, length, T, eqb, ltb, leb}
use Rattle.guide.specs.Nodes.{View, Selector, Node, Guide, capacity, node, among, same_place, takes, paired, number_of, required}
use Rattle.plain.specs.Plain.{same}
unfoldable pub use Rattle.bytewise.specs.Every.{every}

-- b, where a
abbrev pub implies : Bool → Bool → Bool
implies true b = b
implies false b = true

-- every node but the message has a parent of a lower number, the message takes no segment, and a node that can be required takes segments
abbrev pub lower_parent : Guide → ℕ → Bool
lower_parent g n = implies (ltb 0 n || ltb 0 (node g n).limit) (ltb (node g n).parent n)

abbrev pub must_takes : Guide → ℕ → Bool
must_takes g n = implies ((node g n).must || paired g n) (ltb 0 (node g n).limit)

-- under one parent the rows rise with the numbers of their nodes
abbrev pub in_order : Guide → ℕ → ℕ → Bool
in_order g n m = implies (eqb (node g n).parent (node g m).parent && leb n m) (leb (number_of g n) (number_of g m))

unfoldable pub rising : Guide → Bool
rising g = every (λ n. (lower_parent g n && must_takes g n) && every (in_order g n) (length g)) (length g)

-- the two have a code in common
unfoldable pub shared : List (List ℕ) → List (List ℕ) → Bool
shared [] ds = false
shared (c ∷ cs) ds = among c ds || shared cs ds

abbrev pub any_of : List (List ℕ) → Bool
any_of [] = true
any_of (c ∷ cs) = false

-- the selectors do not tell segments apart: one takes any code, they look at different components, or they share a code
unfoldable pub together : Selector → Selector → Bool
together a b =
    (any_of a.codes || any_of b.codes)
    || (not (eqb a.element b.element && eqb a.component b.component) || shared a.codes b.codes)

-- one segment could match both
unfoldable pub overlap : Node → Node → Bool
overlap x y = (ltb 0 x.limit && ltb 0 y.limit) && (same x.tag y.tag && together x.selector y.selector)

-- x could come after an instance of y, in its parent
abbrev pub follows : Guide → Node → ℕ → Bool
follows g x y = eqb (node g y).parent x.parent && leb (node g y).counter x.counter

-- walking up from y, at most k steps: the test holds of each of them
unfoldable pub upward : Guide → (ℕ → Bool) → ℕ → ℕ → Bool
upward g test zero y = true
upward g test (suc k) y = test y && upward g test k (node g y).parent

-- ... x could come after none of them
abbrev pub clear : Guide → Node → ℕ → ℕ → Bool
clear g x k y = upward g (λ z. not (follows g x z)) k y

-- two nodes that one segment could match: under one parent they share a place; and neither can come after an instance that the other is in
abbrev pub one_place : Guide → ℕ → ℕ → Bool
one_place g n m = implies (eqb (node g n).parent (node g m).parent) (eqb (node g n).counter (node g m).counter)

unfoldable pub apart_at : Guide → ℕ → ℕ → Bool
apart_at g n m = implies (overlap (node g n) (node g m)) (one_place g n m && clear g (node g n) (length g) (node g m).parent)

unfoldable pub apart : Guide → Bool
apart g = every (λ n. every (apart_at g n) (length g)) (length g)

-- no two nodes of one place could match one segment
unfoldable pub distinct : Guide → Bool
distinct g =
    every (λ n. every (λ m. implies (same_place (node g n) (node g m) && overlap (node g n) (node g m)) (eqb n m)) (length g)) (length g)

-- z ends a message: a required node at the root without children, and every other node there has a lower counter
abbrev pub earlier : Guide → ℕ → ℕ → Bool
earlier g z n = implies (eqb (node g n).parent 0) (eqb n z || ltb (node g n).counter (node g z).counter)

unfoldable pub ends : Guide → ℕ → Bool
ends g z =
    eqb (node g z).parent 0 && ((node g z).must && every (λ n. not (eqb (node g n).parent z) && earlier g z n) (length g))

-- one of two rows that come in pairs: the other, q, is another row of the table and of its place, whose partner it is; it comes once, and is not required
-- by itself
abbrev pub mated : Guide → ℕ → ℕ → Bool
mated g n q =
    (paired g q && eqb (node g q).partner n)
    && ((not (eqb q n) && same_place (node g q) (node g n)) && (eqb (node g n).limit 1 && not (node g n).must))

unfoldable pub mates : Guide → Bool
mates g = every (λ n. implies (paired g n) (mated g n (node g n).partner)) (length g)

-- what `rising` gives
pub record Rising (g : Guide) : Type 0 where
  pub below : (n : ℕ) → 0 < n → n < length g → (node g n).parent < n
  pub rises : (n : ℕ) → 0 < (node g n).limit → (node g n).parent < n
  pub taking : (n : ℕ) (seen : ℕ → ℕ) → T (required g n seen) → 0 < (node g n).limit
  pub numbers : (n m : ℕ) → n < length g → m < length g → (node g n).parent ≡ (node g m).parent → n ≤ m → number_of g n ≤ number_of g m

-- an instance of m is inside one of x, at any depth
pub data Under (g : Guide) (x : ℕ) : ℕ → Type 0 where
  child : {m : ℕ} → (node g m).parent ≡ x → Under g x m
  deeper : {m y : ℕ} → (node g m).parent ≡ y → (node g y).parent < y → Under g x y → Under g x m

-- what `apart` gives: at most one node under a parent takes a segment, and none that is inside an instance after which another that takes
-- it could come
pub record Apart (g : Guide) : Type 0 where
  pub one_node : (n m : ℕ) (v : View) → T (takes g n v) → T (takes g m v) → (node g n).parent ≡ (node g m).parent → n ≡ m
  pub outside :
      (n m x : ℕ) (v : View) → T (takes g n v) → T (takes g m v) → Under g x m → (node g x).parent ≡ (node g n).parent →
      (node g x).counter ≤ (node g n).counter → ⊥

-- what `ends` gives
pub record Ends (g : Guide) (z : ℕ) : Type 0 where
  pub root : (node g z).parent ≡ 0
  pub wanted : (seen : ℕ → ℕ) → T (required g z seen)
  pub childless : (n : ℕ) → (node g n).parent ≡ z → 0 < (node g n).limit → ⊥
  pub final : (n : ℕ) → (node g n).parent ≡ 0 → 0 < (node g n).limit → (n ≡ z → ⊥) → (node g n).counter < (node g z).counter

-- what `mates` gives of one of two rows that come in pairs, and of the other
pub record Mated (g : Guide) (n q : ℕ) : Type 0 where
  pub both : T (paired g q)
  pub back : (node g q).partner ≡ n
  pub other : q ≡ n → ⊥
  pub parents : (node g q).parent ≡ (node g n).parent
  pub counters : (node g q).counter ≡ (node g n).counter
  pub once : (node g n).limit ≡ 1
  pub free : T (node g n).must → ⊥

abbrev pub Pairing : Guide → Type 0
Pairing g = (n : ℕ) → T (paired g n) → Mated g n (node g n).partner

-- all that the theorems ask of a table whose messages end with node z
pub record Passes (g : Guide) (z : ℕ) : Type 0 where
  pub rising : Rising g
  pub apart : Apart g
  pub ends : Ends g z
  pub pairing : Pairing g
  pub room : length g ≤ capacity
