-- Document 01, 'Sheets on both sides of each rule': rows a to l, structure only; and sheets of request 2.
use Rattle.std.specs.Prelude.{ℕ, ◌≡◌, ◌&&◌, cond, List, [], ◌∷◌, ◌++◌, map, eqb}
use Prim.Native.String.{String}
use Rattle.guide.specs.Nodes.{View, Guide, number_of}
use Rattle.bytewise.specs.Bytes.{bytes_of}
use Rattle.guide.specs.Tree.{Beginning}
use Rattle.guide.specs.Meaning.{Stops}

-- a segment with a tag alone, and one with a code in the first component after the tag
abbrev pub bare : String → View
bare t = record { tag = bytes_of t; key = λ e c. [] }

abbrev pub with : String → String → View
with t k = record { tag = bytes_of t; key = λ e c. cond (eqb e 1 && eqb c 0) (bytes_of k) [] }

-- what is said of a sheet: it fits, or the refusal's number, segment and node
pub data Said : Type 0 where
  fitting : Said
  refusal : ℕ → ℕ → ℕ → Said

pub record Sheet : Type 0 where
  pub segments : List View
  pub expected : Said

-- "Let H be UNH BGM DTM/137 RFF/Z13 NAD/MR NAD/MS"; its first four are H4
abbrev pub H4 : List View
H4 = bare "UNH" ∷ bare "BGM" ∷ with "DTM" "137" ∷ with "RFF" "Z13" ∷ []

abbrev pub H : List View
H = H4 ++ (with "NAD" "MR" ∷ with "NAD" "MS" ∷ [])

abbrev pub sheet : List View → Said → Sheet
sheet ss x = record { segments = ss; expected = x }

abbrev pub a_to_l : List Sheet
a_to_l =
    -- a H UNT fits. b H with MS before MR, UNT, fits
    sheet (H ++ (bare "UNT" ∷ [])) fitting
    ∷ sheet (H4 ++ (with "NAD" "MS" ∷ with "NAD" "MR" ∷ bare "UNT" ∷ [])) fitting
    -- c UNH UNT: 14 at 2, node 2. d UNH BGM RFF/Z13: 14 at 3, node 4
    ∷ sheet (bare "UNH" ∷ bare "UNT" ∷ []) (refusal 14 2 2)
    ∷ sheet (bare "UNH" ∷ bare "BGM" ∷ with "RFF" "Z13" ∷ []) (refusal 14 3 4)
    -- e UNH BGM DTM/163: 13 at 3
    ∷ sheet (bare "UNH" ∷ bare "BGM" ∷ with "DTM" "163" ∷ []) (refusal 13 3 0)
    -- f UNH BGM DTM/137 RFF/Z13 NAD/MR NAD/MR: 15 at 6, node 9. g the same with CTA as sixth: 13 at 6
    ∷ sheet (H4 ++ (with "NAD" "MR" ∷ with "NAD" "MR" ∷ [])) (refusal 15 6 9)
    ∷ sheet (H4 ++ (with "NAD" "MR" ∷ bare "CTA" ∷ [])) (refusal 13 6 0)
    -- h H CTA UNT: 14 at 8, node 13. i H CTA and six COM: 15 at 13, node 13
    ∷ sheet (H ++ (bare "CTA" ∷ bare "UNT" ∷ [])) (refusal 14 8 13)
    ∷ sheet (H ++ (bare "CTA" ∷ bare "COM" ∷ bare "COM" ∷ bare "COM" ∷ bare "COM" ∷ bare "COM" ∷ bare "COM" ∷ [])) (refusal 15 13 13)
    -- j H PGI/Z01 LIN UNT: 14 at 9, node 24. k H PGI/Z01 LIN PRI PRI: 15 at 10, node 24. l H PGI/Z01 UNT: 14 at 8, node 23
    ∷ sheet (H ++ (with "PGI" "Z01" ∷ bare "LIN" ∷ bare "UNT" ∷ [])) (refusal 14 9 24)
    ∷ sheet (H ++ (with "PGI" "Z01" ∷ bare "LIN" ∷ bare "PRI" ∷ bare "PRI" ∷ [])) (refusal 15 10 24)
    ∷ sheet (H ++ (with "PGI" "Z01" ∷ bare "UNT" ∷ [])) (refusal 14 8 23)
    ∷ []

-- a price of the first kind, segment 9; then the codes of its DTM, and what comes behind
abbrev pub P : List View
P = H ++ (with "PGI" "9" ∷ bare "LIN" ∷ bare "PRI" ∷ [])

abbrev pub interval : List String → List View → List View
interval codes rest = P ++ (map (with "DTM") codes ++ rest)

-- Request 2, where n is the interval's node, and `next` is said of a price right behind one that has 163 alone
abbrev pub intervals : ℕ → Said → List Sheet
intervals n next =
    -- "a price without any interval stays allowed"; "both must be, once each", in either order, in each price
    sheet (interval [] (bare "UNT" ∷ [])) fitting
    ∷ sheet (interval ("163" ∷ "164" ∷ []) (bare "UNT" ∷ [])) fitting
    ∷ sheet (interval ("164" ∷ "163" ∷ []) (bare "UNT" ∷ [])) fitting
    ∷ sheet (interval ("163" ∷ "164" ∷ []) (bare "LIN" ∷ bare "PRI" ∷ with "DTM" "164" ∷ with "DTM" "163" ∷ bare "UNT" ∷ [])) fitting
    -- "14 with the interval's node at the segment that closes a price with only one": UNT, LIN, the other kind's PGI
    ∷ sheet (interval ("163" ∷ []) (bare "UNT" ∷ [])) (refusal 14 11 n)
    ∷ sheet (interval ("164" ∷ []) (bare "UNT" ∷ [])) (refusal 14 11 n)
    ∷ sheet (interval ("163" ∷ []) (bare "LIN" ∷ bare "PRI" ∷ with "DTM" "164" ∷ [])) (refusal 14 11 n)
    ∷ sheet (interval ("164" ∷ []) (bare "LIN" ∷ [])) (refusal 14 11 n)
    ∷ sheet (interval ("163" ∷ []) (with "PGI" "Z01" ∷ [])) (refusal 14 11 n)
    -- a segment that itself gets 13 or 15 gives that number
    ∷ sheet (interval ("163" ∷ []) (bare "PRI" ∷ with "DTM" "164" ∷ [])) next
    ∷ sheet (interval ("164" ∷ []) (bare "CUX" ∷ [])) (refusal 13 11 0)
    -- "25 at the second DTM of one code, after 15 and 16": a third is 15
    ∷ sheet (interval ("163" ∷ "163" ∷ []) []) (refusal 25 11 n)
    ∷ sheet (interval ("164" ∷ "164" ∷ []) []) (refusal 25 11 n)
    ∷ sheet (interval ("163" ∷ "164" ∷ "163" ∷ []) []) (refusal 15 12 n)
    ∷ sheet (interval ("163" ∷ "164" ∷ "164" ∷ []) []) (refusal 15 12 n)
    -- what just stops may still go on
    ∷ sheet (interval ("164" ∷ []) []) fitting
    ∷ []

abbrev pub expected_of : List Sheet → List Said
expected_of sheets = map (λ (x : Sheet). x.expected) sheets

-- what the sheet says over trees: the segments are a beginning, or the refusal's row holds where it says, of a row with the node's number
abbrev pub Means : Guide → List View → Said → Type 0
Means g ss fitting = Beginning g (λ v. v) ss
Means g ss (refusal k i n) = (m : ℕ) × (number_of g m ≡ n) × Stops g (λ v. v) ss k i m

abbrev pub AllMean : Guide → List Sheet → Type 0
AllMean g [] = Unit {0}
AllMean g (x ∷ xs) = Means g x.segments x.expected × AllMean g xs
