-- Pages. Document 01, 'Elements': "Rows of elements and components come from each node's page."
use Rattle.std.specs.Prelude.{ℕ, zero, suc, Bool, true, false, List, [], ◌∷◌, get_or}
use Prim.Native.String.{String}
use Rattle.bytewise.specs.Bytes.{bytes_of}
use Rattle.value.specs.declared.formats.Format.{Format}

-- M and R are must; D and O (and C, where a page shows nothing else) are may: "D and O both mean 'may occur'"
pub data Status : Type 0 where
  must may : Status

-- a row for one component: its status, its format and its codes, none where any text will do; or N, not used
pub data Row : Type 0 where
  used : Status → Format → List (List ℕ) → Row
  unused : Row

-- an element: whether it is itself M or R, and the rows of its components
pub record Composite : Type 0 where
  pub required : Bool
  pub rows : List Row

-- the elements from element 1 on, the one behind the tag
abbrev pub Page : Type 0
Page = List Composite

-- codes, as a page prints them
unfoldable pub codes : List String → List (List ℕ)
codes [] = []
codes (t ∷ ts) = bytes_of t ∷ codes ts

-- a row without codes
abbrev pub any : List (List ℕ)
any = []

-- a composite that is M or R, and one that is not
abbrev pub required : List Row → Composite
required rs = record { required = true; rows = rs }

abbrev pub optional : List Row → Composite
optional rs = record { required = false; rows = rs }

-- "A simple element has one component": a composite of one row, with the row's status
unfoldable pub simple : Row → Composite
simple (used must f cs) = required (used must f cs ∷ [])
simple (used may f cs) = optional (used may f cs ∷ [])
simple unused = optional (unused ∷ [])

-- "all beyond the last row must be empty": what stands behind the last element of a page
abbrev pub beyond : Composite
beyond = optional []

-- element e of a page; element 0 is the tag and has no rows
unfoldable pub element_of : Page → ℕ → Composite
element_of page zero = beyond
element_of page (suc e) = get_or page e beyond

-- the row of component c, counted from 0, of element e; beyond the last row a component is not used
unfoldable pub row_of : Page → ℕ → ℕ → Row
row_of page e c = get_or (element_of page e).rows c unused
