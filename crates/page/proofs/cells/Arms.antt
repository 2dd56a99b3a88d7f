-- The arms of the tables of states.
use Prim.Native.Nat.{ℕ, ◌/◌, ◌%◌}
use mathlib.Core.Path.{◌≡◌, refl, sym, ap}
use mathlib.Core.Bool.{true}
use mathlib.Core.List.{List, [], ◌∷◌}
use native.Mathlib.Omega.{arith}
use lib.ListN.{length, get_or}
use lib.Dec.{ltb}
use borrow.Author.Tests.{ltb-true}
use Rattle.bytewise.specs.Eights.{number, byte_of}
use Rattle.clean.specs.Clean.{between, capital}
use Rattle.guide.specs.Nodes.{Node, Guide, message, node}
use Rattle.guide.specs.Page.{Page}
use Rattle.guide.specs.Pricat.{pricat20d, pricat20c}
use Rattle.guide.specs.Pages20d.{page_of}
use Rattle.guide.specs.Pages20c.{page_of20c}
use Rattle.page.specs.workers.Cells.{spot_of, states, cell_table, cell_of, FirstCell, tag_word, is_tag_word, FirstWord}
use Rattle.page.specs.workers.Columns.{column}
use Rattle.page.specs.workers.Words.{NodeWord}
use Rattle.page.proofs.words.Tables.{NoneBelow, past_all}
use Rattle.page.proofs.words.Ties.{told, node_table20d, node_table20c, node_arm_20d, node_arm_20c}

pub cell_arm : (k n : ℕ) → n ≡ k → get_or cell_table k 0 ≡ cell_of n
unfolding cell_of
cell_arm k n e = rw e

-- the word of a node without a page; the state and the tag in a word
abbrev no_word : ℕ
no_word = 0x2b5a5a5a_00000000

abbrev state_in : ℕ → ℕ
state_in w = w % 0x1_0000_0000

abbrev tag_in : ℕ → ℕ
tag_in w = w / 0x1_0000_0000

-- the first words of an edition, in the order of its nodes
module _ (firsts words : List ℕ) (guide : Guide) (pages : column (λ (w : ℕ). (spot_of (state_in w)).page) firsts ≡ column (λ (w : ℕ). w) words)
    (elements : column (λ (w : ℕ). (spot_of (state_in w)).element) firsts ≡ column (λ (w : ℕ). 0) words)
    (components : column (λ (w : ℕ). (spot_of (state_in w)).component) firsts ≡ column (λ (w : ℕ). 0) words)
    (low : column (λ (w : ℕ). ltb (state_in w) states) firsts ≡ column (λ (w : ℕ). true) words)
    (tags : column tag_in firsts ≡ column (λ (x : Node). tag_word x.tag) guide)
    (letters : column (λ (w : ℕ). is_tag_word (tag_in w)) firsts ≡ column (λ (w : ℕ). true) words) where
  first_arm : (k n : ℕ) → n ≡ k → (page : Page) → NodeWord (get_or words k 0) page → FirstWord (node guide n).tag page (get_or firsts k no_word)
  unfolding FirstCell spot_of tag_word is_tag_word byte_of capital between
  first_arm k n at page m =
      let p = told (λ (w : ℕ). (spot_of (state_in w)).page) (λ (w : ℕ). w) firsts no_word words 0 pages refl k k refl in
      let e = told (λ (w : ℕ). (spot_of (state_in w)).element) (λ (w : ℕ). 0) firsts no_word words 0 elements refl k k refl in
      let c = told (λ (w : ℕ). (spot_of (state_in w)).component) (λ (w : ℕ). 0) firsts no_word words 0 components refl k k refl in
      let l = told (λ (w : ℕ). ltb (state_in w) states) (λ (w : ℕ). true) firsts no_word words 0 low refl k k refl in
      record {
        state = (ltb-true _ _ l, λ h. (rw p m, e, c));
        tagged = told tag_in (λ (x : Node). tag_word x.tag) firsts no_word guide message tags refl k n at;
        lettered = told (λ (w : ℕ). is_tag_word (tag_in w)) (λ (w : ℕ). true) firsts no_word words 0 letters refl k k refl;
      }

-- behind all nodes
pub first-none : (guide : Guide) (n : ℕ) → NoneBelow n (length guide) → (page : Page) → FirstWord (node guide n).tag page no_word
unfolding FirstCell tag_word is_tag_word byte_of capital between
first-none guide n rest page =
    record {
      state = (omega arith, λ h. absurd (h refl));
      tagged = ap (λ (x : Node). tag_word x.tag) (sym (past_all guide message n rest));
      lettered = refl;
    }

abbrev first_table20d : List ℕ
first_table20d =
    0x2b5a5a5a_00000000 ∷ 0x2b484e55_00000022 ∷ 0x2b4d4742_00000054 ∷ 0x2b4d5444_00000001 ∷ 0x2b4d5444_00000004 ∷ 0x2b4d5444_00000007 ∷
    0x2b464652_0000000a ∷ 0x2b464652_0000000c ∷ 0x2b464652_0000000e ∷ 0x2b44414e_00000028 ∷ 0x2b44414e_0000002c ∷ 0x2b434f4c_00000030 ∷
    0x2b415443_00000032 ∷ 0x2b4d4f43_00000010 ∷ 0x2b585543_00000012 ∷ 0x2b494750_00000015 ∷ 0x2b4e494c_00000057 ∷ 0x2b414950_00000035 ∷
    0x2b444d49_00000048 ∷ 0x2b495250_00000016 ∷ 0x2b474e52_00000038 ∷ 0x2b4d5444_0000001c ∷ 0x2b494750_0000001f ∷ 0x2b4e494c_0000005b ∷
    0x2b495250_00000020 ∷ 0x2b474e52_0000003c ∷ 0x2b544e55_00000040 ∷ 0x2b4d5444_0000001c ∷ []

pub first_arm_20d : (k n : ℕ) → n ≡ k → FirstWord (node pricat20d n).tag (page_of n) (get_or first_table20d k no_word)
unfolding column spot_of tag_word number is_tag_word byte_of capital between pricat20d
first_arm_20d k n e = first_arm first_table20d node_table20d pricat20d refl refl refl refl refl refl k n e (page_of n) (node_arm_20d k n e)

abbrev first_table20c : List ℕ
first_table20c =
    0x2b5a5a5a_00000000 ∷ 0x2b484e55_00000042 ∷ 0x2b4d4742_00000054 ∷ 0x2b4d5444_00000001 ∷ 0x2b4d5444_00000004 ∷ 0x2b4d5444_00000007 ∷
    0x2b464652_0000000a ∷ 0x2b464652_0000000e ∷ 0x2b44414e_00000028 ∷ 0x2b44414e_0000002c ∷ 0x2b434f4c_00000030 ∷ 0x2b415443_00000032 ∷
    0x2b4d4f43_00000010 ∷ 0x2b585543_00000012 ∷ 0x2b494750_00000015 ∷ 0x2b4e494c_00000057 ∷ 0x2b414950_00000035 ∷ 0x2b444d49_0000004e ∷
    0x2b495250_00000016 ∷ 0x2b4d5444_0000001c ∷ 0x2b494750_0000001f ∷ 0x2b4e494c_0000005b ∷ 0x2b495250_00000020 ∷ 0x2b474e52_0000003c ∷
    0x2b544e55_00000040 ∷ 0x2b4d5444_0000001c ∷ []

pub first_arm_20c : (k n : ℕ) → n ≡ k → FirstWord (node pricat20c n).tag (page_of20c n) (get_or first_table20c k no_word)
unfolding column spot_of tag_word number is_tag_word byte_of capital between pricat20c
first_arm_20c k n e = first_arm first_table20c node_table20c pricat20c refl refl refl refl refl refl k n e (page_of20c n) (node_arm_20c k n e)
