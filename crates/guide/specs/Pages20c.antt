-- The pages of PRICAT 2.0c, from source 003, with source 001 where 003's page is cut (CUX); docs/PAGES.md says what differs from 2.0d, with
-- the doubtful points.
use Rattle.std.specs.Prelude.{ℕ, List, [], ◌∷◌, get_or}
use Rattle.value.specs.declared.formats.Format.TheVariants.{AnUpTo, N}
use Rattle.guide.specs.Page.{must, Page}
use Rattle.guide.specs.Composites.{basis}
use Rattle.guide.specs.PageMakers.{UNH, BGM, DTM, RFF, NAD, LOC, CTA, COM, CUX, PGI, LIN, PIA, IMD, PRI, RNG, UNT}
use Rattle.guide.specs.Pages20d.{pages20d}

-- all of them by their nodes; there is no node 0. They are made of the same as those of 2.0d, and unfold with them
unfoldable pub pages20c : List Page
unfolding pages20d
pages20c =
    []  -- 0
    ∷ UNH "2.0c"  -- 1
    ∷ BGM  -- 2
    ∷ DTM ("492" ∷ []) "610"  -- 3
    ∷ DTM ("137" ∷ []) "303"  -- 4
    ∷ DTM ("157" ∷ []) "303"  -- 5
    ∷ RFF "ACW" (AnUpTo 70) []  -- 6
    ∷ RFF "Z13" (N 5) ("27001" ∷ "27002" ∷ "27003" ∷ [])  -- 7
    ∷ NAD "MR"  -- 8
    ∷ NAD "MS"  -- 9
    ∷ LOC  -- 10
    ∷ CTA  -- 11
    ∷ COM  -- 12
    ∷ CUX  -- 13
    ∷ PGI "9"  -- 14
    ∷ LIN ("Z01" ∷ "Z09" ∷ [])  -- 15
    ∷ PIA  -- 16
    ∷ IMD must  -- 17
    ∷ PRI basis  -- 18
    ∷ DTM ("163" ∷ "164" ∷ []) "303"  -- 19
    ∷ PGI "Z01"  -- 20
    ∷ LIN ("Z09" ∷ [])  -- 21
    ∷ PRI []  -- 22
    ∷ RNG ("KWH" ∷ [])  -- 23
    ∷ UNT  -- 24
    ∷ DTM ("163" ∷ "164" ∷ []) "303"  -- 25: the other row of node 19
    ∷ []

-- the page of a node of 2.0c; what is no node has a page without rows
unfoldable pub page_of20c : ℕ → Page
page_of20c node = get_or pages20c node []
