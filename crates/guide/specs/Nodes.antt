-- The nodes of a guide, and which segments they take. Document 01, 'Guide nodes of PRICAT 2.0d', for any guide.
use Rattle.std.specs.Prelude.{ℕ, zero, suc, Bool, true, false, not, cond, ◌&&◌, ◌||◌, List, [], ◌∷◌, map, get_or, eqb, ltb}
use Prim.Native.String.{String}
use Rattle.bytewise.specs.Bytes.{bytes_of}
use Rattle.plain.specs.Plain.{same}

-- a segment as a guide sees it: its tag, and the component at each element and component, releases removed; the tag is element 0,
-- components count from 0, and one that does not stand there is empty
pub record View : Type 0 where
  pub tag : List ℕ
  pub key : ℕ → ℕ → List ℕ

-- the component that tells nodes of one tag apart, and the codes that it may hold for this one; no codes: any
pub record Selector : Type 0 where
  pub element : ℕ
  pub component : ℕ
  pub codes : List (List ℕ)

-- "Node, tag, required (!) or optional, limit in its parent", with the standard's counter. A node whose two codes come once each has a row for each of
-- them, and each is the other's partner; 0: it has none
pub record Node : Type 0 where
  pub tag : List ℕ
  pub selector : Selector
  pub parent : ℕ
  pub counter : ℕ
  pub must : Bool
  pub limit : ℕ
  pub partner : ℕ

-- row n is node n, but for the second row of a pair, which stands behind all nodes; row 0 is the message itself
abbrev pub Guide : Type 0
Guide = List Node

-- no guide has more rows: the counts of the code's state
abbrev pub capacity : ℕ
capacity = 96

-- the number that is no node's: the message has no parent
abbrev pub nobody : ℕ
nobody = 1000

-- the message: the parent of the nodes at the root. Its limit 0 says that no segment is given it.
abbrev pub message : Node
message =
    record {
      tag = [];
      selector = record { element = 0; component = 0; codes = [] };
      parent = nobody;
      counter = 0;
      must = false;
      limit = 0;
      partner = 0;
    }

-- node n; past the table's end there is none: a row like the message's takes no segment and is nobody's child
abbrev pub node : Guide → ℕ → Node
node g n = get_or g n message

-- whether k is one of the codes
unfoldable pub among : List ℕ → List (List ℕ) → Bool
among k [] = false
among k (c ∷ cs) = same k c || among k cs

-- "by the code ..; the others by tag alone"; on a page: "code not on its page". Where there are no codes, any will do
unfoldable pub chosen : List (List ℕ) → List ℕ → Bool
chosen [] k = true
chosen (c ∷ cs) k = among k (c ∷ cs)

-- the segment has the node's tag and code
unfoldable pub matches : Node → View → Bool
matches x v =
    ltb 0 x.limit && (same x.tag v.tag && chosen x.selector.codes (v.key x.selector.element x.selector.component))

-- "Nodes with one counter under one parent share a place"
unfoldable pub same_place : Node → Node → Bool
same_place x y = eqb x.parent y.parent && eqb x.counter y.counter

-- whether one of the nodes below k that share x's place matches too
unfoldable pub rival : Guide → ℕ → Node → View → Bool
rival g zero x v = false
rival g (suc k) x v = (same_place (node g k) x && matches (node g k) v) || rival g k x v

-- node n takes the segment: it matches, and no lower node of its place does
unfoldable pub takes : Guide → ℕ → View → Bool
takes g n v = matches (node g n) v && not (rival g n (node g n) v)

-- whether node n is one of two rows that come in pairs
unfoldable pub paired : Guide → ℕ → Bool
paired g n = ltb 0 (node g n).partner

-- the node's number in the guide: both rows of a pair have that of the lower
unfoldable pub number_of : Guide → ℕ → ℕ
number_of g n = cond (paired g n && ltb (node g n).partner n) (node g n).partner n

-- whether node m must occur in an instance of its parent, where `seen` says how often each node has come there; request 2: "Where either is
-- given, both must be"
unfoldable pub required : Guide → ℕ → (ℕ → ℕ) → Bool
required g m seen = (node g m).must || (paired g m && ltb 0 (seen (node g m).partner))

-- the number given when node n comes once more than its limit: 15; request 2: "25 at the second DTM of one code, after 15 and 16", so where the
-- other code stands too a third DTM gets 15. Item 10: "16 ends, its number unused"
unfoldable pub over : Guide → ℕ → (ℕ → ℕ) → ℕ
over g n seen = cond (paired g n && eqb (seen (node g n).partner) 0) 25 15

-- a table's rows as they are written
abbrev pub tag_alone : Selector
tag_alone = record { element = 0; component = 0; codes = [] }

abbrev pub select : ℕ → ℕ → List String → Selector
select e c ts = record { element = e; component = c; codes = map bytes_of ts }

abbrev pub row : String → Selector → ℕ → ℕ → Bool → ℕ → Node
row t s p c m l = record { tag = bytes_of t; selector = s; parent = p; counter = c; must = m; limit = l; partner = 0 }

-- one of two rows that come in pairs: tag, codes, parent, counter, the other row
abbrev pub pair_row : String → Selector → ℕ → ℕ → ℕ → Node
pair_row t s p c q = record { tag = bytes_of t; selector = s; parent = p; counter = c; must = false; limit = 1; partner = q }
