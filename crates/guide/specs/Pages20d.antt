-- The pages of PRICAT 2.0d, from source 001, with source 003 where 001 shows part of a page; docs/PAGES.md has them as tables, with the
-- doubtful points.
use Rattle.std.specs.Prelude.{ℕ, List, [], ◌∷◌, get_or}
use Rattle.value.specs.declared.formats.Format.TheVariants.{AnUpTo, N}
use Rattle.guide.specs.Page.{may, Page, codes, simple}
use Rattle.guide.specs.Composites.{S009, C002, C106, C507, C506, C082, C517, C056, C076, C504, C212, services, C272, C273, C509, basis, C280}
unfoldable pub use Rattle.guide.specs.PageMakers.{coded, UNH, BGM, DTM, RFF, NAD, LOC, CTA, COM, CUX, PGI, LIN, PIA, IMD, PRI, RNG, UNT}

-- all of them by their nodes; there is no node 0. To unfold them is to unfold what they are made of
unfoldable pub pages20d : List Page
unfolding
    codes simple coded S009 C002 C106 C507 C506 C082 C517 C056 C076 C504 C212 services C272 C273 C509 basis C280 UNH BGM DTM RFF NAD
    LOC CTA COM CUX PGI LIN PIA IMD PRI RNG UNT
pages20d =
    []  -- 0
    ∷ UNH "2.0d"  -- 1
    ∷ BGM  -- 2
    ∷ DTM ("492" ∷ []) "610"  -- 3
    ∷ DTM ("137" ∷ []) "303"  -- 4
    ∷ DTM ("157" ∷ []) "303"  -- 5
    ∷ RFF "ACW" (AnUpTo 70) []  -- 6
    ∷ RFF "Z56" (AnUpTo 35) []  -- 7
    ∷ RFF "Z13" (N 5) ("27001" ∷ "27002" ∷ "27003" ∷ [])  -- 8
    ∷ NAD "MR"  -- 9
    ∷ NAD "MS"  -- 10
    ∷ LOC  -- 11
    ∷ CTA  -- 12
    ∷ COM  -- 13
    ∷ CUX  -- 14
    ∷ PGI "9"  -- 15
    ∷ LIN ("Z01" ∷ "Z09" ∷ [])  -- 16
    ∷ PIA  -- 17
    ∷ IMD may  -- 18
    ∷ PRI basis  -- 19
    ∷ RNG ("H87" ∷ "DAY" ∷ [])  -- 20
    ∷ DTM ("163" ∷ "164" ∷ []) "303"  -- 21
    ∷ PGI "Z01"  -- 22
    ∷ LIN ("Z09" ∷ [])  -- 23
    ∷ PRI []  -- 24
    ∷ RNG ("KWH" ∷ [])  -- 25
    ∷ UNT  -- 26
    ∷ DTM ("163" ∷ "164" ∷ []) "303"  -- 27: the other row of node 21
    ∷ []

-- the page of a node; what is no node has a page without rows
unfoldable pub page_of : ℕ → Page
page_of node = get_or pages20d node []
