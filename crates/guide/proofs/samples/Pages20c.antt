-- The pages of 2.0c on the examples of source 003, and on both sides of what differs from 2.0d; by computation.
use Prim.Native.Nat.{ℕ, suc}
use Prim.Native.String.{String}
use mathlib.Core.Path.{◌≡◌, refl}
use mathlib.Core.List.{List, [], ◌∷◌}
use lib.ListN.{replicate}
use Rattle.guide.specs.Pages20c.{pages20c, page_of20c}
use Rattle.guide.proofs.samples.Pages20d.{fault_on, at as at20d}

-- at a node of PRICAT 2.0c
at20c : ℕ → String → ℕ
unfolding fault_on pages20c page_of20c
at20c node segment = fault_on (page_of20c node) segment

-- at the nodes from n on, one segment each
faults_from : ℕ → List String → List ℕ
faults_from n [] = []
faults_from n (s ∷ ss) = at20c n s ∷ faults_from (suc n) ss

-- the example of every page, with the `+` that 003 loses in LIN and the `:` in PRI
examples
    : faults_from 1
    ("UNH+767097019+PRICAT:D:20B:UN:2.0c'"
    ∷ "BGM+Z54+1313+++11'"
    ∷ "DTM+492:201105:610'"
    ∷ "DTM+137:201106031826?+00:303'"
    ∷ "DTM+157:201801012300?+00:303'"
    ∷ "RFF+ACW:123GSDF3434'"
    ∷ "RFF+Z13:27001'"
    ∷ "NAD+MR+4078901000029::9'"
    ∷ "NAD+MS+4012345000023::9'"
    ∷ "LOC+231+10YDE-VNBNET---9'"
    ∷ "CTA+IC+:B. Zweistein'"
    ∷ "COM+00897298719:TE'"
    ∷ "CUX+2:EUR:8'"
    ∷ "PGI+9'"
    ∷ "LIN+1++9990001000631:Z01'"
    ∷ "PIA+1+FX12:Z06'"
    ∷ "IMD+X+Z41+Z11:::Blockstromwandler und weitere Details zu diesem'"
    ∷ "PRI+CAL:168.06::::ANN'"
    ∷ "DTM+163:201104010815?+00:303'"
    ∷ "PGI+Z01'"
    ∷ "LIN+1++1-08-1-03254005-01-3:Z09'"
    ∷ "PRI+CAL:168.06'"
    ∷ "RNG+10+KWH:0:12000'"
    ∷ "UNT+24+767097019'"
    ∷ [])
    ≡ replicate 24 0
unfolding at20c faults_from
examples = refl

-- each edition's header names that edition; what stands left of the edition comes first
editions
    : (at20c 1 "UNH+1+PRICAT:D:20B:UN:2.0d'" ≡ 20)
    × (at20d 1 "UNH+1+PRICAT:D:20B:UN:2.0c'" ≡ 20)
    × (at20c 1 "UNH+1+PRICAT:D:20B:UN:2?.0?c'" ≡ 0)
    × (at20c 1 "UNH+1+PRICAT:D:20B:UN:2.0C'" ≡ 20)
    × (at20c 1 "UNH++PRICAT:D:20B:UN:2.0c'" ≡ 17)
    × (at20c 1 "UNH+1+PRICAT:D:20B:UN:2.0c:X'" ≡ 18)
unfolding at20c at20d
editions = (refl, refl, refl, refl, refl, refl)

-- IMD 7008 is R in 2.0c and D in 2.0d: a description that stands must have its text
descriptions20c
    : (at20c 17 "IMD+C+Z31'" ≡ 0)
    × (at20c 17 "IMD+C+Z31+:::'" ≡ 0)
    × (at20c 17 "IMD+X+Z16+:::a?+b'" ≡ 0)
    × (at20c 17 "IMD+C+Z16+Z08'" ≡ 17)
    × (at20c 17 "IMD+C+Z16+Z08:::'" ≡ 17)
    × (at20c 17 "IMD+X+Z16+::::X'" ≡ 17)
    × (at20c 17 "IMD+X+Z16+Z08:X'" ≡ 18)
unfolding at20c
descriptions20c = (refl, refl, refl, refl, refl, refl, refl)

descriptions20d
    : (at20d 18 "IMD+C+Z16+Z08'" ≡ 0)
    × (at20d 18 "IMD+C+Z16+Z08:::'" ≡ 0)
    × (at20d 18 "IMD+X+Z16+::::X'" ≡ 18)
unfolding at20d
descriptions20d = (refl, refl, refl)

-- the lines of document 01 at the nodes of 2.0c
lines
    : (at20c 18 "PRI+CAL:168.06:::ANN'" ≡ 19)
    × (at20c 18 "PRI+CAL:1:X'" ≡ 18)
    × (at20c 22 "PRI+CAL:1::::ANN'" ≡ 18)
    × (at20c 7 "RFF+Z13:2700'" ≡ 19)
    × (at20c 7 "RFF+Z13:27004'" ≡ 20)
    × (at20c 8 "NAD+MR+9900259000002:::293'" ≡ 17)
    × (at20c 23 "RNG+10+:9'" ≡ 17)
    × (at20c 23 "RNG+10+H87:9:9'" ≡ 20)
    × (at20c 13 "CUX+2:EUR:9'" ≡ 20)
unfolding at20c
lines = (refl, refl, refl, refl, refl, refl, refl, refl, refl)
