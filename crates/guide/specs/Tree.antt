-- Assignments as trees of instances. Document 01, 'Assignment'; it cites a guide's nodes and nothing else. The tree is over any type A of
-- segments with the way a guide sees them, so that positions and prices are read off the tree of a message's own segments.
use Rattle.std.specs.Prelude.{ℕ, ◌+◌, ◌≤◌, ◌<◌, ◌≡◌, Bool, true, false, List, [], ◌∷◌, ◌++◌, T, eqb}
use Rattle.guide.specs.Nodes.{View, Guide, node, takes, paired, required}

-- the children of an instance, in order: those before the last, and then the last: its node, its segment and its own children
pub data Kids (A : Type 0) : Type 0 where
  none : Kids A
  then : Kids A → ℕ → A → Kids A → Kids A

-- a segment and the node that it is given
pub record Given (A : Type 0) : Type 0 where
  pub node : ℕ
  pub segment : A

abbrev pub one : Bool → ℕ
one true = 1
one false = 0

module _ {A : Type 0} where
  -- the segments of a tree, in message order
  abbrev pub segs : Kids A → List A
  segs none = []
  segs (then l n s k) = segs l ++ (s ∷ segs k)

  abbrev pub giving : ℕ → A → Given A
  giving n s = record { node = n; segment = s }

  -- ... each with its node
  abbrev pub assigned : Kids A → List (Given A)
  assigned none = []
  assigned (then l n s k) = assigned l ++ (giving n s ∷ assigned k)

  -- how many of the children are instances of node m
  abbrev pub count : Kids A → ℕ → ℕ
  count none m = 0
  count (then l n s k) m = count l m + one (eqb n m)

module _ {A : Type 0} (g : Guide) where
  -- the counter that the children have reached
  abbrev pub top : Kids A → ℕ
  top none = 0
  top (then l n s k) = (node g n).counter

  -- "limits hold"
  abbrev pub Limits : ℕ → Kids A → Type 0
  Limits p f = (m : ℕ) → (node g m).parent ≡ p → count f m ≤ (node g m).limit

  -- "A required node must occur in each instance of its parent, and at the root"
  abbrev pub All : ℕ → Kids A → Type 0
  All p f = (m : ℕ) → (node g m).parent ≡ p → T (node g m).must → 1 ≤ count f m

  -- request 2: "Where either is given, both must be, once each; a price without any interval stays allowed": each of the two codes as often as the
  -- other, at most once
  abbrev pub Pairs : ℕ → Kids A → Type 0
  Pairs p f = (m : ℕ) → (node g m).parent ≡ p → T (paired g m) → (count f m ≡ count f (node g m).partner) × (count f m ≤ 1)

  -- a closed instance of p lacks nothing
  pub record Complete (p : ℕ) (f : Kids A) : Type 0 where
    pub all : All p f
    pub pairs : Pairs p f

  -- "no required node .. of an earlier counter is missing": none of a counter below c; one of two codes makes the other required
  abbrev pub Due : ℕ → ℕ → Kids A → Type 0
  Due p c f = (m : ℕ) → (node g m).parent ≡ p → T (required g m (count f)) → (node g m).counter < c → 1 ≤ count f m

module _ {A : Type 0} (g : Guide) (view : A → View) where
  -- the segment s as an instance of node n, after the children l of an instance of p
  pub record Next (p : ℕ) (l : Kids A) (n : ℕ) (s : A) : Type 0 where
    pub takes : T (takes g n (view s))
    pub under : (node g n).parent ≡ p
    -- "A node never comes after one with a higher counter in the same instance"
    pub order : top g l ≤ (node g n).counter

  -- the children of an instance of p, each of them closed
  unfoldable pub Closed : ℕ → Kids A → Type 0
  Closed p none = Unit {0}
  Closed p (then l n s k) = Closed p l × Next p l n s × Closed n k × Limits g n k × Complete g n k

  -- the same where the last child may still be open, and so its last child
  unfoldable pub Open : ℕ → Kids A → Type 0
  Open p none = Unit {0}
  Open p (then l n s k) = Closed p l × Next p l n s × Open n k × Limits g n k × Due g n (top g k) k

  -- the segments ss can be given nodes so that order, status, limits and pairs hold
  pub record Whole (ss : List A) : Type 0 where
    pub tree : Kids A
    pub closed : Closed 0 tree
    pub limits : Limits g 0 tree
    pub complete : Complete g 0 tree
    pub same : segs tree ≡ ss

  -- "A beginning of a message fits if its segments can be so assigned, limits hold, and no required node of a closed instance or of an
  -- earlier counter is missing"
  pub record Beginning (ss : List A) : Type 0 where
    pub tree : Kids A
    pub begun : Open 0 tree
    pub limits : Limits g 0 tree
    pub due : Due g 0 (top g tree) tree
    pub same : segs tree ≡ ss
