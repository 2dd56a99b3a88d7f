-- Rows a to l of document 01: as one statement by computation, and what they say over trees.
use mathlib.Core.Path.{◌≡◌, refl, sym, ap}
use Prim.Native.Nat.{ℕ}
use mathlib.Core.List.{List, [], ◌∷◌, ◌++◌, map}
use native.Mathlib.Omega.{arith}
use lib.ListN.{replicate}
use Rattle.guide.specs.Nodes.{View, Guide, capacity, among, chosen, matches, paired, number_of, required, over}
use Rattle.plain.specs.Plain.{same}
use Rattle.guide.specs.Pricat.{pricat20d}
use Rattle.guide.specs.Tree.{Whole}
use Rattle.guide.specs.Answers.{Answer, placed, refused}
use Rattle.guide.specs.workers.Placing.{
  lowest,
  levels,
  fits_in,
  seek,
  lacking,
  missing,
  place,
  indexed,
  recounted,
  counts_after,
  last_after,
  start,
  Ran,
  fits,
  fault,
  run,
}
use Rattle.guide.specs.workers.Checks.{Passes}
use Rattle.guide.specs.Sheets.{bare, with, Said, fitting, refusal, Sheet, H, H4, a_to_l, expected_of, Means, AllMean}
use Rattle.guide.specs.workers.Runs.{said, said_of}
use Rattle.guide.proofs.Editions.{pricat20d_passes, whole_iff, beginning_iff, fault_iff}

-- what comes of a COM behind a COM, where k have come under the open CTA and each node before it once
com_after : ℕ → Answer
unfolding matches same among chosen required over pricat20d lowest levels fits_in seek lacking missing place
com_after k = place pricat20d (bare "COM") 13 (replicate 13 1 ++ (k ∷ []))

-- the step that decides row i, on both sides of the limit
sixth_com : (com_after 4 ≡ placed 13) × (com_after 5 ≡ refused 15 13)
unfolding com_after paired
sixth_com = (refl, refl)

-- The twelve rows.
pub sheets_hold : said_of pricat20d a_to_l ≡ expected_of a_to_l
unfolding
    matches same among chosen paired number_of required over pricat20d lowest levels fits_in seek lacking missing place indexed recounted counts_after
    last_after run
sheets_hold = refl

map_same : (vs : List View) → map (λ v. v) vs ≡ vs
map_same [] = refl
map_same (v ∷ vs) = ap (λ (us : List View). v ∷ us) (map_same vs)

module _ (g : Guide) {u : ℕ} (p : Passes g u) where
  means : (ss : List View) (x : Said) → said g (run g 1 ss (start capacity)) ≡ x → Means g ss x
  means ss x h = go (run g 1 ss (start capacity)) refl x h
    where
      same-run : (y : Ran) → run g 1 ss (start capacity) ≡ y → run g 1 (map (λ v. v) ss) (start capacity) ≡ y
      same-run y e = rw (map_same ss) e

      go : (y : Ran) → run g 1 ss (start capacity) ≡ y → (x : Said) → said g y ≡ x → Means g ss x
      go (fits st) e fitting h = (beginning_iff g u p (λ v. v) ss).0 (st, same-run (fits st) e)
      go (fits st) e (refusal k i n) h = absurd (let z : ◌≡◌ {A = ℕ} 0 1 = cc in omega arith)
      go (fault k i n) e fitting h = absurd (let z : ◌≡◌ {A = ℕ} 0 1 = cc in omega arith)
      go (fault k i n) e (refusal k' i' n') h =
          let a : k ≡ k' = cc in
          let b : i ≡ i' = cc in
          let c : number_of g n ≡ n' = cc in
          (n, c, rw (sym a, sym b) ((fault_iff g u p (λ v. v) ss k i n).0 (same-run (fault k i n) e)))

  pub all-mean : (xs : List Sheet) → said_of g xs ≡ expected_of xs → AllMean g xs
  all-mean [] h = tt
  all-mean (x ∷ xs) h = (means x.segments x.expected (cc), all-mean xs (cc))

-- Each row over trees.
pub sheets_mean : AllMean pricat20d a_to_l
sheets_mean = all-mean pricat20d pricat20d_passes a_to_l sheets_hold

-- a and b are whole messages.
pub case_a : Whole pricat20d (λ v. v) (H ++ (bare "UNT" ∷ []))
unfolding matches same among chosen paired required over pricat20d lowest levels fits_in seek lacking missing place indexed recounted counts_after last_after
    run
case_a = (whole_iff pricat20d 26 pricat20d_passes (λ v. v) (H ++ (bare "UNT" ∷ []))).0 (_, refl, refl)

pub case_b : Whole pricat20d (λ v. v) (H4 ++ (with "NAD" "MS" ∷ with "NAD" "MR" ∷ bare "UNT" ∷ []))
unfolding matches same among chosen paired required over pricat20d lowest levels fits_in seek lacking missing place indexed recounted counts_after last_after
    run
case_b = (whole_iff pricat20d 26 pricat20d_passes (λ v. v) (H4 ++ (with "NAD" "MS" ∷ with "NAD" "MR" ∷ bare "UNT" ∷ []))).0 (_, refl, refl)
