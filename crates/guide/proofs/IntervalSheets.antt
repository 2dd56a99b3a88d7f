-- The sheets of request 2, for each edition: as one statement by computation, and what they say over trees.
use Prim.Native.Nat.{ℕ}
use mathlib.Core.Path.{◌≡◌, refl}
use mathlib.Core.List.{List, [], ◌∷◌, ◌++◌}
use lib.ListN.{replicate}
use Rattle.plain.specs.Plain.{same}
use Rattle.guide.specs.Nodes.{View, among, chosen, matches, paired, number_of, required, over}
use Rattle.guide.specs.Pricat.{pricat20d, pricat20c}
use Rattle.guide.specs.Answers.{Answer, placed, refused}
use Rattle.guide.specs.workers.Placing.{lowest, levels, fits_in, seek, lacking, missing, place, indexed, recounted, counts_after, last_after, run}
use Rattle.guide.specs.Sheets.{bare, with, refusal, Sheet, intervals, expected_of, AllMean}
use Rattle.guide.specs.workers.Runs.{said_of}
use Rattle.guide.proofs.Editions.{pricat20d_passes, pricat20c_passes}
use Rattle.guide.proofs.Sheets.{all-mean}

-- what comes of a segment behind a DTM of a price, where 163 has come a times under it and 164 b times, and each node before them once
behind : View → ℕ → ℕ → Answer
unfolding matches same among chosen required over pricat20d lowest levels fits_in seek lacking missing place
behind v a b = place pricat20d v 21 (replicate 21 1 ++ (a ∷ (replicate 5 0 ++ (b ∷ []))))

-- the steps that decide: the second of one code, the third of both, the other code; and UNT behind one code, and behind both
second_code
    : (behind (with "DTM" "163") 1 0 ≡ refused 25 21)
    × (behind (with "DTM" "164") 0 1 ≡ refused 25 27)
    × (behind (with "DTM" "163") 1 1 ≡ refused 15 21)
    × (behind (with "DTM" "164") 1 0 ≡ placed 27)
unfolding behind paired
second_code = (refl, refl, refl, refl)

lone_code
    : (behind (bare "UNT") 1 0 ≡ refused 14 27) × (behind (bare "UNT") 0 1 ≡ refused 14 21) × (behind (bare "UNT") 1 1 ≡ placed 26)
unfolding behind paired
lone_code = (refl, refl, refl)

-- in 2.0d a second price can come, and closes the first
abbrev intervals20d : List Sheet
intervals20d = intervals 21 (refusal 14 11 21)

-- in 2.0c it cannot: its limit is passed
abbrev intervals20c : List Sheet
intervals20c = intervals 19 (refusal 15 11 18)

pub intervals_hold_20d : said_of pricat20d intervals20d ≡ expected_of intervals20d
unfolding
    matches same among chosen paired number_of required over pricat20d lowest levels fits_in seek lacking missing place indexed recounted counts_after
    last_after run
intervals_hold_20d = refl

pub intervals_hold_20c : said_of pricat20c intervals20c ≡ expected_of intervals20c
unfolding
    matches same among chosen paired number_of required over pricat20c lowest levels fits_in seek lacking missing place indexed recounted counts_after
    last_after run
intervals_hold_20c = refl

-- Each over trees.
pub intervals-mean : AllMean pricat20d intervals20d × AllMean pricat20c intervals20c
intervals-mean =
    (all-mean pricat20d pricat20d_passes intervals20d intervals_hold_20d, all-mean pricat20c pricat20c_passes intervals20c intervals_hold_20c)
