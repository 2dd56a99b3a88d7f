-- What 2.0c shares with 2.0d, and what not; by computation.
use Prim.Native.Nat.{ℕ}
use mathlib.Core.Path.{◌≡◌, refl}
use mathlib.Core.List.{List, [], ◌∷◌, ◌++◌, map}
use lib.ListN.{length, get_or}
use Rattle.plain.specs.Plain.{same}
use Rattle.guide.specs.Nodes.{Node, node, among, chosen, matches, paired, number_of, required, over}
use Rattle.guide.specs.workers.Columns.{values}
use Rattle.guide.specs.Pricat.{pricat20d, pricat20c}
use Rattle.guide.specs.Pages20d.{pages20d, page_of}
use Rattle.guide.specs.Pages20c.{pages20c, page_of20c}
use Rattle.guide.specs.workers.Placing.{lowest, levels, fits_in, seek, lacking, missing, place, indexed, recounted, counts_after, last_after, run}
use Rattle.guide.specs.Sheets.{bare, with, Said, fitting, refusal, Sheet, H, sheet, a_to_l, expected_of}
use Rattle.guide.specs.workers.Runs.{said_of}

-- the row that 2.0c has for each row of 2.0d; 0 for RFF/Z56 and the first kind's RNG, which it does not have
abbrev numbers : List ℕ
numbers =
    0 ∷ 1 ∷ 2 ∷ 3 ∷ 4 ∷ 5 ∷ 6 ∷ 0 ∷ 7 ∷ 8 ∷ 9 ∷ 10 ∷ 11 ∷ 12 ∷ 13 ∷ 14 ∷ 15 ∷ 16 ∷ 17 ∷ 18 ∷ 0 ∷ 19 ∷ 20 ∷ 21 ∷ 22 ∷ 23 ∷ 24 ∷ 25 ∷ []

abbrev renumbered : ℕ → ℕ
renumbered n = get_or numbers n 0

-- the nodes of 2.0d that 2.0c has too, but for those that differ: UNH and IMD in their pages, the first kind's PRI in its limit
abbrev shared : List ℕ
shared = 2 ∷ 3 ∷ 4 ∷ 5 ∷ 6 ∷ 8 ∷ 9 ∷ 10 ∷ 11 ∷ 12 ∷ 13 ∷ 14 ∷ 15 ∷ 16 ∷ 17 ∷ 21 ∷ 22 ∷ 23 ∷ 24 ∷ 25 ∷ 26 ∷ 27 ∷ []

-- their pages are the same, and so is that of PRI
same_pages : map (λ (n : ℕ). page_of20c (renumbered n)) (19 ∷ shared) ≡ map page_of (19 ∷ shared)
unfolding pages20d page_of pages20c page_of20c
same_pages = refl

-- a node of 2.0d under the number that its parent has in 2.0c
abbrev moved : Node → Node
moved x =
    record {
      tag = x.tag;
      selector = x.selector;
      parent = renumbered x.parent;
      counter = x.counter;
      must = x.must;
      limit = x.limit;
      partner = renumbered x.partner;
    }

-- their nodes are the same, and so are those of UNH and IMD
same_nodes
    : map (λ (n : ℕ). node pricat20c (renumbered n)) (1 ∷ 18 ∷ shared)
    ≡ map (λ (n : ℕ). moved (node pricat20d n)) (1 ∷ 18 ∷ shared)
unfolding pricat20d pricat20c
same_nodes = refl

-- every node has its page
pages_of_nodes : (length pages20c ≡ length pricat20c) × (length pages20d ≡ length pricat20d)
unfolding pages20c pricat20c pages20d pricat20d
pages_of_nodes = (refl, refl)

-- both rows of the interval's node have its number, and every other row has its own
row-numbers
    : (values (number_of pricat20d) 0 28 ≡ values (λ n. n) 0 27 ++ (21 ∷ []))
    × (values (number_of pricat20c) 0 26 ≡ values (λ n. n) 0 25 ++ (19 ∷ []))
unfolding pricat20d pricat20c paired number_of
row-numbers = (refl, refl)

-- what is said, under the numbers of 2.0c
abbrev said_with : Said → Said
said_with fitting = fitting
said_with (refusal k i n) = refusal k i (renumbered n)

-- rows a to l
sheets_20c : said_of pricat20c a_to_l ≡ map said_with (expected_of a_to_l)
unfolding
    matches same among chosen paired number_of required over pricat20c lowest levels fits_in seek lacking missing place indexed recounted counts_after
    last_after run
sheets_20c = refl

-- H with RFF/Z56; H PGI/9 LIN PRI PRI; H PGI/9 LIN PRI RNG; the same in the second kind
abbrev differing : Said → Said → Said → List Sheet
differing reference prices range =
    sheet (bare "UNH" ∷ bare "BGM" ∷ with "DTM" "137" ∷ with "RFF" "Z56" ∷ []) reference
    ∷ sheet (H ++ (with "PGI" "9" ∷ bare "LIN" ∷ bare "PRI" ∷ bare "PRI" ∷ [])) prices
    ∷ sheet (H ++ (with "PGI" "9" ∷ bare "LIN" ∷ bare "PRI" ∷ bare "RNG" ∷ [])) range
    ∷ sheet (H ++ (with "PGI" "Z01" ∷ bare "LIN" ∷ bare "PRI" ∷ bare "RNG" ∷ [])) fitting
    ∷ []

differing_20d : said_of pricat20d (differing fitting fitting fitting) ≡ expected_of (differing fitting fitting fitting)
unfolding matches same among chosen paired required over pricat20d lowest levels fits_in seek lacking missing place indexed recounted counts_after last_after
    run
differing_20d = refl

abbrev differing20c : List Sheet
differing20c = differing (refusal 13 4 0) (refusal 15 10 18) (refusal 13 10 0)

differing_20c : said_of pricat20c differing20c ≡ expected_of differing20c
unfolding
    matches same among chosen paired number_of required over pricat20c lowest levels fits_in seek lacking missing place indexed recounted counts_after
    last_after run
differing_20c = refl
