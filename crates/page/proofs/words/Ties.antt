-- The tables of the code: their words, in order, are right by one computation for each thing that a word says.
use Prim.Native.Nat.{ℕ, zero, suc, ◌/◌, ◌%◌}
use mathlib.Core.Path.{◌≡◌, refl, sym, ap, ◌∙◌}
use mathlib.Core.List.{List, [], ◌∷◌}
use lib.ListN.{get_or}
use Rattle.plain.specs.Words.{packed}
use Rattle.guide.specs.Page.{Row, unused, Composite, Page, beyond}
use Rattle.guide.specs.Pages20d.{pages20d, page_of}
use Rattle.guide.specs.Pages20c.{pages20c, page_of20c}
use Rattle.guide.specs.workers.Moods.{is_must, any_must}
use Rattle.page.specs.workers.Columns.{joined, column, codes_of, all_elements, rows20d, all_rows, all_codes}
use Rattle.page.specs.workers.Words.{span, reach, codes_in, format_in, row_in, element_in, ElementWord, page_in, lacking, NodeWord}

-- a cell of a column
pub cell : {A B : Type 0} (f : A → B) (l : List A) (n : ℕ) (z : A) → get_or (column f l) n (f z) ≡ f (get_or l n z)
unfolding column
cell f [] n z = refl
cell f (x ∷ xs) zero z = refl
cell f (x ∷ xs) (suc n) z = cell f xs n z

-- what the words of a table say, where they say it in order of the members of a list
module _ {A B : Type 0} (f : ℕ → B) (g : A → B) (words : List ℕ) (past : ℕ) (l : List A) (z : A) (order : column f words ≡ column g l) (none : f past ≡ g z)
  where
    pub told : (k n : ℕ) → n ≡ k → f (get_or words k past) ≡ g (get_or l n z)
    told k n e = sym (cell f words k past) ∙ rw (e, order, none) (cell g l k z)

-- the nodes of an edition, by its pages
module _ (words : List ℕ) (pages : List Page) (order : column page_in words ≡ column (λ (p : Page). p) pages)
    (reached : column (λ (w : ℕ). w / 32768) words ≡ column (reach lacking) pages) where
  node_arm : (k n : ℕ) → n ≡ k → NodeWord (get_or words k 0) (get_or pages n [])
  unfolding page_in span reach
  node_arm k n e =
      record {
        page = told page_in (λ (p : Page). p) words 0 pages [] order refl k n e;
        reach = told (λ (w : ℕ). w / 32768) (reach lacking) words 0 pages [] reached refl k n e;
      }

abbrev pub node_table20d : List ℕ
node_table20d =
    0 ∷ 67584 ∷ 70658 ∷ 33799 ∷ 33800 ∷ 33801 ∷ 33802 ∷ 33803 ∷ 33804 ∷ 67597 ∷ 67599 ∷ 67601 ∷ 67603 ∷ 33813 ∷ 33814 ∷ 33815 ∷ 101400 ∷ 67611 ∷
    68637 ∷ 33824 ∷ 67617 ∷ 33827 ∷ 33828 ∷ 101413 ∷ 33832 ∷ 67625 ∷ 67627 ∷ 33827 ∷ []

pages_20d : column page_in node_table20d ≡ column (λ (p : Page). p) pages20d
unfolding pages20d joined column all_elements span page_in
pages_20d = refl

reach_20d : column (λ (w : ℕ). w / 32768) node_table20d ≡ column (reach lacking) pages20d
unfolding pages20d column is_must any_must reach lacking
reach_20d = refl

pub node_arm_20d : (k n : ℕ) → n ≡ k → NodeWord (get_or node_table20d k 0) (page_of n)
unfolding page_of
node_arm_20d = node_arm node_table20d pages20d pages_20d reach_20d

abbrev pub node_table20c : List ℕ
node_table20c =
    0 ∷ 67629 ∷ 70658 ∷ 33799 ∷ 33800 ∷ 33801 ∷ 33802 ∷ 33804 ∷ 67597 ∷ 67599 ∷ 67601 ∷ 67603 ∷ 33813 ∷ 33814 ∷ 33815 ∷ 101400 ∷ 67611 ∷ 68655 ∷
    33824 ∷ 33827 ∷ 33828 ∷ 101413 ∷ 33832 ∷ 67625 ∷ 67627 ∷ 33827 ∷ []

pages_20c : column page_in node_table20c ≡ column (λ (p : Page). p) pages20c
unfolding pages20d pages20c joined column all_elements span page_in
pages_20c = refl

reach_20c : column (λ (w : ℕ). w / 32768) node_table20c ≡ column (reach lacking) pages20c
unfolding pages20d pages20c column is_must any_must reach lacking
reach_20c = refl

pub node_arm_20c : (k n : ℕ) → n ≡ k → NodeWord (get_or node_table20c k 0) (page_of20c n)
unfolding page_of20c
node_arm_20c = node_arm node_table20c pages20c pages_20c reach_20c

abbrev pub element_table : List ℕ
element_table =
    1082368 ∷ 1217537 ∷ 1082374 ∷ 1082375 ∷ 1032 ∷ 1033 ∷ 1034 ∷ 1149963 ∷ 1149966 ∷ 1149969 ∷ 1116180 ∷ 1116182 ∷ 1116184 ∷ 1082394 ∷ 1149979 ∷
    1082398 ∷ 1149983 ∷ 1082402 ∷ 1082403 ∷ 1082404 ∷ 1116197 ∷ 1116199 ∷ 1149993 ∷ 1082412 ∷ 1082413 ∷ 1070 ∷ 1116207 ∷ 1082417 ∷ 1116210 ∷ 1082420 ∷
    1082421 ∷ 4150 ∷ 1120314 ∷ 1082432 ∷ 1117249 ∷ 1150020 ∷ 1082439 ∷ 1082440 ∷ 1097 ∷ 1116234 ∷ 1116236 ∷ 1082446 ∷ 1117263 ∷ 1082450 ∷ 1082451 ∷
    1082368 ∷ 1217620 ∷ 1082420 ∷ 1082421 ∷ 135257 ∷ []

element-rows : column element_in element_table ≡ column (λ (k : Composite). k) all_elements
unfolding pages20d joined column all_elements rows20d all_rows span element_in
element-rows = refl

element-reach : column (λ (w : ℕ). w / 32768 % 32) element_table ≡ column (λ (k : Composite). reach is_must k.rows) all_elements
unfolding pages20d joined column all_elements is_must reach
element-reach = refl

pub element_arm : (k n : ℕ) → n ≡ k → ElementWord (get_or element_table k 0) (get_or all_elements n beyond)
unfolding element_in span reach
element_arm k n e =
    record {
      element = told element_in (λ (x : Composite). x) element_table 0 all_elements beyond element-rows refl k n e;
      reach = told (λ (w : ℕ). w / 32768 % 32) (λ (x : Composite). reach is_must x.rows) element_table 0 all_elements beyond element-reach refl k n e;
    }

abbrev pub row_table : List ℕ
row_table =
    14811136 ∷ 6423552 ∷ 3277825 ∷ 3277826 ∷ 2229251 ∷ 6423556 ∷ 3283973 ∷ 73531392 ∷ 0 ∷ 0 ∷ 3212300 ∷ 3277837 ∷ 36831232 ∷ 3277838 ∷ 3277839 ∷
    36831232 ∷ 3277840 ∷ 3277841 ∷ 36831232 ∷ 3277842 ∷ 3277843 ∷ 73531392 ∷ 3277844 ∷ 36831232 ∷ 3277845 ∷ 6163478 ∷ 3277849 ∷ 36831232 ∷ 0 ∷
    3279898 ∷ 3277853 ∷ 36831232 ∷ 0 ∷ 3279902 ∷ 3277857 ∷ 36831232 ∷ 3277858 ∷ 0 ∷ 268566528 ∷ 537001984 ∷ 3281955 ∷ 3277864 ∷ 3277865 ∷ 3277866 ∷
    3277867 ∷ 6946816 ∷ 0 ∷ 36831232 ∷ 3278892 ∷ 3277870 ∷ 36831232 ∷ 3277871 ∷ 3278896 ∷ 3294258 ∷ 17895491 ∷ 0 ∷ 0 ∷ 268500992 ∷ 3277895 ∷
    16384000 ∷ 0 ∷ 0 ∷ 10027008 ∷ 8455240 ∷ 3277897 ∷ 8521802 ∷ 19529728 ∷ 19464192 ∷ 3278924 ∷ 36831232 ∷ 3277902 ∷ 3277903 ∷ 6946816 ∷ 0 ∷
    36831232 ∷ 3277904 ∷ 3277905 ∷ 16384000 ∷ 3277906 ∷ 8520787 ∷ 19529728 ∷ 19464192 ∷ 6946816 ∷ 14811136 ∷ 6423552 ∷ 3277825 ∷ 3277826 ∷ 2229251 ∷
    6423636 ∷ 17895491 ∷ 0 ∷ 0 ∷ 268566528 ∷ []

row-table : column row_in row_table ≡ column (λ (r : Row). r) all_rows
unfolding pages20d joined column codes_of rows20d all_rows all_codes span codes_in format_in row_in
row-table = refl

pub row_arm : (k n : ℕ) → n ≡ k → row_in (get_or row_table k 0) ≡ get_or all_rows n unused
unfolding row_in
row_arm = told row_in (λ (r : Row). r) row_table 0 all_rows unused row-table refl

abbrev code_table : List ℕ
code_table =
    374114255196752 ∷ 324 ∷ 21114930 ∷ 85589 ∷ 5975846450 ∷ 20197466 ∷ 20067162 ∷ 20198746 ∷ 20199002 ∷ 20395610 ∷ 19937114 ∷ 20395866 ∷ 78129 ∷
    20068660 ∷ 19935542 ∷ 20394801 ∷ 20131891 ∷ 20395313 ∷ 20131891 ∷ 22496065 ∷ 20329818 ∷ 20132186 ∷ 1310773491506 ∷ 1315068458802 ∷ 1319363426098 ∷
    86605 ∷ 313 ∷ 20134194 ∷ 20067123 ∷ 86861 ∷ 313 ∷ 20134194 ∷ 20067123 ∷ 20001586 ∷ 82761 ∷ 85317 ∷ 88134 ∷ 83284 ∷ 84545 ∷ 85057 ∷ 306 ∷
    22172997 ∷ 312 ∷ 313 ∷ 20000858 ∷ 20525146 ∷ 305 ∷ 20328538 ∷ 323 ∷ 344 ∷ 20263258 ∷ 20328794 ∷ 20394330 ∷ 20459866 ∷ 20525402 ∷ 19935834 ∷
    20001370 ∷ 20066906 ∷ 20132442 ∷ 20197978 ∷ 20263514 ∷ 20460122 ∷ 20525658 ∷ 19936090 ∷ 20001626 ∷ 20067162 ∷ 20001882 ∷ 20459610 ∷ 20525146 ∷
    19935578 ∷ 20001114 ∷ 21774659 ∷ 21909057 ∷ 77873 ∷ 20396104 ∷ 22626628 ∷ 20133425 ∷ 20198961 ∷ 20131891 ∷ 20000858 ∷ 20525146 ∷ 21774659 ∷
    77873 ∷ 21518155 ∷ 5959069234 ∷ []

code-table : code_table ≡ column packed all_codes
unfolding pages20d packed joined column codes_of rows20d all_codes
code-table = refl

pub code_arm : (k n : ℕ) → n ≡ k → get_or code_table k 1 ≡ packed (get_or all_codes n [])
unfolding packed
code_arm k n e = ap (λ (l : List ℕ). get_or l k 1) code-table ∙ cell packed all_codes k [] ∙ ap (λ (m : ℕ). packed (get_or all_codes m [])) (sym e)
