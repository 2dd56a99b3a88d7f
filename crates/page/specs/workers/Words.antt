-- Words: what the code's tables hold of a node, an element, a row and a code, packed into one number; and how a word is read. No public promise
-- cites these.
use Rattle.std.specs.Prelude.{ℕ, zero, suc, ◌+◌, ◌/◌, ◌%◌, Bool, true, false, ◌&&◌, ◌≡◌, List, [], ◌∷◌, get_or, eqb}
use Rattle.value.specs.declared.formats.Format.{Format}
use Rattle.value.specs.declared.formats.Format.TheVariants.{AnUpTo, An, NUpTo, N}
use Rattle.guide.specs.Page.{must, may, Row, used, unused, Composite, Page, beyond}
use Rattle.guide.specs.workers.Moods.{is_must, any_must}
use Rattle.page.specs.workers.Columns.{all_elements, all_rows, all_codes}

-- m members of a list from the place n on, and z where it has none
module _ {A : Type 0} (l : List A) (z : A) where
  unfoldable pub span : ℕ → ℕ → List A
  span n zero = []
  span n (suc m) = get_or l n z ∷ span (n + 1) m

-- how far the members reach that are so: 1 and the place of the last of them, or 0
abbrev pub further : ℕ → Bool → ℕ
further zero true = 1
further zero false = 0
further (suc n) b = suc (suc n)

module _ {A : Type 0} (f : A → Bool) where
  unfoldable pub reach : List A → ℕ
  reach [] = 0
  reach (x ∷ xs) = further (reach xs) (f x)

-- a row's word: the place of its first code, how many codes it has, 0 not used or 1 may or 2 must, the kind of its format, the format's size
unfoldable pub codes_in : ℕ → List (List ℕ)
codes_in w = span all_codes [] (w % 1024) (w / 1024 % 64)

-- 0 an..k, 1 ank, 2 n..k, 3 nk
abbrev pub format_by : ℕ → ℕ → Format
format_by zero k = AnUpTo k
format_by (suc zero) k = An k
format_by (suc (suc zero)) k = NUpTo k
format_by (suc (suc (suc n))) k = N k

unfoldable pub format_in : ℕ → Format
format_in w = format_by (w / 262144 % 4) (w / 1048576)

abbrev pub row_by : ℕ → Format → List (List ℕ) → Row
row_by zero f cs = unused
row_by (suc zero) f cs = used may f cs
row_by (suc (suc n)) f cs = used must f cs

unfoldable pub row_in : ℕ → Row
row_in w = row_by (w / 65536 % 4) (format_in w) (codes_in w)

-- the row of a cell's word, where what it must not be is not asked: not used where the format's size is 0
abbrev pub free_by : ℕ → Format → List (List ℕ) → Row
free_by zero f cs = unused
free_by (suc n) f cs = used may f cs

unfoldable pub free_row : ℕ → Row
free_row w = free_by (w / 1048576) (format_in w) (codes_in w)

-- an element's word: the place of its first row, how many rows it has, how far its must rows reach, 1 where it is required
unfoldable pub element_in : ℕ → Composite
element_in w = record { required = eqb (w / 1048576) 1; rows = span all_rows unused (w % 1024) (w / 1024 % 32) }

pub record ElementWord (w : ℕ) (k : Composite) : Type 0 where
  pub element : element_in w ≡ k
  pub reach : w / 32768 % 32 ≡ reach is_must k.rows

-- a node's word: the place of its first element, how many elements it has, how far those reach that ask for a component although they do not stand
unfoldable pub page_in : ℕ → Page
page_in w = span all_elements beyond (w % 1024) (w / 1024 % 32)

unfoldable pub lacking : Composite → Bool
lacking k = k.required && any_must k.rows

pub record NodeWord (w : ℕ) (p : Page) : Type 0 where
  pub page : page_in w ≡ p
  pub reach : w / 32768 ≡ reach lacking p
