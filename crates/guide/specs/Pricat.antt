-- The nodes of PRICAT 2.0d (document 01, source 001) and of PRICAT 2.0c (source 003).
use Rattle.std.specs.Prelude.{Bool, true, false, List, [], ◌∷◌}
use Prim.Native.String.{String}
use Rattle.guide.specs.Nodes.{Selector, Guide, message, tag_alone, select, row, pair_row}

-- "DTM, RFF, NAD and PGI find their node by the code in the first component after the tag"
abbrev pub by : List String → Selector
by codes = select 1 0 codes

-- "required (!) or optional"
abbrev pub must : Bool
must = true

abbrev pub may : Bool
may = false

-- tag, codes, parent, counter (a group's first node has the group's), status, limit in its parent, number of a passed limit. Request 2 tells the codes of the
-- interval's node apart: 164 has a row of its own behind all nodes, so that every node keeps its number
unfoldable pub pricat20d : Guide
pricat20d =
    message
    ∷ row "UNH" tag_alone 0 10 must 1
    ∷ row "BGM" tag_alone 0 20 must 1
    ∷ row "DTM" (by ("492" ∷ [])) 0 30 may 1
    ∷ row "DTM" (by ("137" ∷ [])) 0 30 must 1
    ∷ row "DTM" (by ("157" ∷ [])) 0 30 may 1
    ∷ row "RFF" (by ("ACW" ∷ [])) 0 60 may 1
    ∷ row "RFF" (by ("Z56" ∷ [])) 0 60 may 1
    ∷ row "RFF" (by ("Z13" ∷ [])) 0 60 must 1
    ∷ row "NAD" (by ("MR" ∷ [])) 0 90 must 1
    ∷ row "NAD" (by ("MS" ∷ [])) 0 90 must 1
    ∷ row "LOC" tag_alone 10 110 may 1
    ∷ row "CTA" tag_alone 10 150 may 1
    ∷ row "COM" tag_alone 12 170 must 5
    ∷ row "CUX" tag_alone 0 220 may 1
    ∷ row "PGI" (by ("9" ∷ [])) 0 590 may 1
    ∷ row "LIN" tag_alone 15 1310 must 999999
    ∷ row "PIA" tag_alone 16 1330 may 1
    ∷ row "IMD" tag_alone 16 1340 may 1
    ∷ row "PRI" tag_alone 16 1560 may 100
    ∷ row "RNG" tag_alone 19 1600 may 1
    ∷ pair_row "DTM" (by ("163" ∷ [])) 19 1610 27
    ∷ row "PGI" (by ("Z01" ∷ [])) 0 590 may 1
    ∷ row "LIN" tag_alone 22 1310 must 999999
    ∷ row "PRI" tag_alone 23 1560 must 1
    ∷ row "RNG" tag_alone 24 1600 may 1
    ∷ row "UNT" tag_alone 0 2400 must 1
    ∷ pair_row "DTM" (by ("164" ∷ [])) 19 1610 21
    ∷ []

-- "no RFF/Z56, price group limit 1 in both kinds, RNG in the second kind only"
unfoldable pub pricat20c : Guide
pricat20c =
    message
    ∷ row "UNH" tag_alone 0 10 must 1
    ∷ row "BGM" tag_alone 0 20 must 1
    ∷ row "DTM" (by ("492" ∷ [])) 0 30 may 1
    ∷ row "DTM" (by ("137" ∷ [])) 0 30 must 1
    ∷ row "DTM" (by ("157" ∷ [])) 0 30 may 1
    ∷ row "RFF" (by ("ACW" ∷ [])) 0 60 may 1
    ∷ row "RFF" (by ("Z13" ∷ [])) 0 60 must 1
    ∷ row "NAD" (by ("MR" ∷ [])) 0 90 must 1
    ∷ row "NAD" (by ("MS" ∷ [])) 0 90 must 1
    ∷ row "LOC" tag_alone 9 110 may 1
    ∷ row "CTA" tag_alone 9 150 may 1
    ∷ row "COM" tag_alone 11 170 must 5
    ∷ row "CUX" tag_alone 0 220 may 1
    ∷ row "PGI" (by ("9" ∷ [])) 0 590 may 1
    ∷ row "LIN" tag_alone 14 1310 must 999999
    ∷ row "PIA" tag_alone 15 1330 may 1
    ∷ row "IMD" tag_alone 15 1340 may 1
    ∷ row "PRI" tag_alone 15 1560 may 1
    ∷ pair_row "DTM" (by ("163" ∷ [])) 18 1610 25
    ∷ row "PGI" (by ("Z01" ∷ [])) 0 590 may 1
    ∷ row "LIN" tag_alone 20 1310 must 999999
    ∷ row "PRI" tag_alone 21 1560 must 1
    ∷ row "RNG" tag_alone 22 1600 may 1
    ∷ row "UNT" tag_alone 0 2400 must 1
    ∷ pair_row "DTM" (by ("164" ∷ [])) 18 1610 19
    ∷ []
