-- What holds of each segment with its node holds of the LIN and the PRI of each price of the tree.
use Prim.Native.Nat.{ℕ, ◌+◌}
use mathlib.Core.Path.{◌≡◌, refl}
use mathlib.Core.Bool.{Bool, true, false, cond}
use mathlib.Core.List.{List, [], ◌∷◌, ◌++◌, map}
use lib.Dec.{T}
use Rattle.bytewise.specs.Bytes.{bytes_of}
use Rattle.cut.specs.Segments.{Segment}
use Rattle.guide.specs.Nodes.{Guide}
use Rattle.guide.specs.Tree.{Kids, none, then, Given, giving, assigned}
use Rattle.guide.specs.Sheet.{Price, Position, only_if, is_tag, children_with, prices_of as prices_under, position, positions_in}
use Rattle.guide.specs.Accepted.{Each}
use Rattle.guide.proofs.Basics.{T_true}
use Rattle.price.specs.Numbers.{Listed}
use Rattle.price.specs.Sheet.{prices_at, prices_of_all, prices_in_tree}
use Rattle.price.specs.Table.{lin_node, pri_node}

module _ {A : Type 0} (P : A → Type 0) where
  pub each_more : (xs ys : List A) → Each P xs → Each P ys → Each P (xs ++ ys)
  unfolding Each
  each_more [] ys a b = b
  each_more (x ∷ xs) ys a b = (a.0, each_more xs ys a.1 b)

  each_front : (xs ys : List A) → Each P (xs ++ ys) → Each P xs
  unfolding Each
  each_front [] ys a = tt
  each_front (x ∷ xs) ys a = (a.0, each_front xs ys a.1)

  each_back : (xs ys : List A) → Each P (xs ++ ys) → Each P ys
  unfolding Each
  each_back [] ys a = a
  each_back (x ∷ xs) ys a = each_back xs ys a.1

-- what holds of each segment with its node holds of a price's LIN and PRI
module _ (g : Guide) (P : ℕ → Segment → Type 0) where
  -- a node with a tag has the segment
  pub record Given_as (t : List ℕ) (s : Segment) : Type 0 where
    pub node : ℕ
    pub tagged : T (is_tag g t node)
    pub holds : P node s

  pub record Comes (q : Listed) : Type 0 where
    pub lin : Given_as (bytes_of "LIN") q.lin
    pub pri : Given_as (bytes_of "PRI") q.price.pri

  abbrev Has : Given Segment → Type 0
  Has x = P x.node x.segment

  abbrev ComesPrice : Price → Type 0
  ComesPrice p = Given_as (bytes_of "PRI") p.pri

  record ComesPosition (p : Position) : Type 0 where
    lin : Given_as (bytes_of "LIN") p.lin
    prices : Each ComesPrice p.prices

  prices_come : (f : Kids Segment) → Each Has (assigned f) → Each ComesPrice (prices_under g f)
  unfolding Each prices_under
  prices_come none e = tt
  prices_come (then b n s k) e =
      each_more ComesPrice (prices_under g b) _ (prices_come b (each_front Has (assigned b) (giving n s ∷ assigned k) e)) (here (pri_node g n) refl)
    where
      here : (t : Bool) → pri_node g n ≡ t → Each ComesPrice (only_if t (record { pri = s; rng = children_with g (bytes_of "RNG") k }))
      here true h = (record { node = n; tagged = T_true h; holds = (each_back Has (assigned b) (giving n s ∷ assigned k) e).0 }, tt)
      here false h = tt

  positions_come : (f : Kids Segment) → Each Has (assigned f) → Each ComesPosition (positions_in g f)
  unfolding Each positions_in
  positions_come none e = tt
  positions_come (then b n s k) e =
      each_more ComesPosition (positions_in g b) _ (positions_come b (each_front Has (assigned b) (giving n s ∷ assigned k) e))
      (here (lin_node g n) refl (positions_come k (each_back Has (assigned b) (giving n s ∷ assigned k) e).1))
    where
      rest : Each Has (giving n s ∷ assigned k)
      rest = each_back Has (assigned b) (giving n s ∷ assigned k) e

      here : (t : Bool) → lin_node g n ≡ t → Each ComesPosition (positions_in g k) → Each ComesPosition (cond t (position g s k ∷ []) (positions_in g k))
      here true h ih = (record { lin = record { node = n; tagged = T_true h; holds = rest.0 }; prices = prices_come k rest.1 }, tt)
      here false h ih = ih

  map_come
      : (n : ℕ) (p : Position) (xs : List Price) → Given_as (bytes_of "LIN") p.lin → Each ComesPrice xs
      → Each Comes (map (λ (x : Price). record { position = n; lin = p.lin; price = x }) xs)
  unfolding Each
  map_come n p [] l e = tt
  map_come n p (x ∷ xs) l e = (record { lin = l; pri = e.0 }, map_come n p xs l e.1)

  all_come : (n : ℕ) (ps : List Position) → Each ComesPosition ps → Each Comes (prices_of_all n ps)
  unfolding Each prices_of_all
  all_come n [] e = tt
  all_come n (p ∷ ps) e =
      each_more Comes (prices_at n p) (prices_of_all (n + 1) ps) (map_come n p p.prices e.0.lin e.0.prices) (all_come (n + 1) ps e.1)

  pub tree_come : (f : Kids Segment) → Each Has (assigned f) → Each Comes (prices_in_tree g f)
  unfolding prices_in_tree
  tree_come f e = all_come 1 (positions_in g f) (positions_come f e)
