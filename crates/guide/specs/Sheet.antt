-- What a message's tree says: the positions with their prices. Document 01, 'Message rules' and 'What is handed out'. It cites the tree and
-- the table only.
use Rattle.std.specs.Prelude.{ℕ, Bool, true, false, cond, List, [], ◌∷◌, ◌++◌}
use Rattle.bytewise.specs.Bytes.{bytes_of}
use Rattle.cut.specs.Segments.{Segment}
use Rattle.plain.specs.Plain.{same}
use Rattle.guide.specs.Nodes.{Guide, node}
use Rattle.guide.specs.Tree.{Kids, none, then, Given}

-- a row of one, or of none
abbrev pub only_if : {A : Type 0} → Bool → A → List A
only_if true a = a ∷ []
only_if false a = []

-- a price: its PRI, and its RNG if there is one
pub record Price : Type 0 where
  pub pri : Segment
  pub rng : List Segment

-- a position: its LIN, its PIA and its IMD if there are such, and its prices
pub record Position : Type 0 where
  pub lin : Segment
  pub pia : List Segment
  pub imd : List Segment
  pub prices : List Price

module _ (g : Guide) where
  -- whether node n has a tag
  unfoldable pub is_tag : List ℕ → ℕ → Bool
  is_tag t n = same (node g n).tag t

  -- the segments whose node has a tag, in message order
  unfoldable pub with_tag : List ℕ → List (Given Segment) → List Segment
  with_tag t [] = []
  with_tag t (x ∷ xs) = only_if (is_tag t x.node) x.segment ++ with_tag t xs

  -- the children of an instance whose node has a tag
  unfoldable pub children_with : List ℕ → Kids Segment → List Segment
  children_with t none = []
  children_with t (then l n s k) = children_with t l ++ only_if (is_tag t n) s

  -- the prices of a position, from its children
  unfoldable pub prices_of : Kids Segment → List Price
  prices_of none = []
  prices_of (then l n s k) = prices_of l ++ only_if (is_tag (bytes_of "PRI") n) (record { pri = s; rng = children_with (bytes_of "RNG") k })

  -- the position of a LIN with its children
  abbrev pub position : Segment → Kids Segment → Position
  position s k =
      record { lin = s; pia = children_with (bytes_of "PIA") k; imd = children_with (bytes_of "IMD") k; prices = prices_of k }

  -- the positions of both kinds of SG17 together, in message order
  unfoldable pub positions_in : Kids Segment → List Position
  positions_in none = []
  positions_in (then l n s k) = positions_in l ++ cond (is_tag (bytes_of "LIN") n) (position s k ∷ []) (positions_in k)
