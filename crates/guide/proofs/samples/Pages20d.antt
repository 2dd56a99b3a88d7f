-- The pages of 2.0d on the lines of document 01, 'Run and compared', that are about pages, and of the settled readings; by computation.
use Prim.Native.Nat.{ℕ}
use Prim.Native.String.{String}
use mathlib.Core.Path.{◌≡◌, refl}
use mathlib.Core.List.{[], ◌∷◌}
use Rattle.cut.specs.Base.{edifact}
use Rattle.cut.specs.Segments.{frees}
use Rattle.element.specs.Elements.{ending_of, stays, releases, before, split_from, elements}
use Rattle.plain.specs.Plain.{unless_mark, plain, same}
use Rattle.value.specs.Numeral.{some, none, is_digit, digits_ahead, behind_digits, minus, unsigned, whole, fraction, digits, is_tail, is_number}
use Rattle.value.specs.Format.{fits_format}
use Rattle.guide.specs.Page.{must, Page, codes, optional, simple}
use Rattle.bytewise.specs.Bytes.{bytes_of}
use Rattle.guide.specs.Composites.{C273}
use Rattle.guide.specs.Pages20d.{pages20d, page_of}
use Rattle.guide.specs.Nodes.{among, chosen}
use Rattle.guide.specs.workers.PageFault.{
  first_of,
  not_used,
  missing,
  wrong_format,
  wrong_code,
  text_fault,
  component_fault,
  any_filled,
  element_fault,
  page_fault,
}

-- the fault of a segment on a page, with the service characters `:+.?'`
unfoldable pub fault_on : Page → String → ℕ
unfolding
    frees ending_of stays releases before split_from elements unless_mark plain same some none is_digit digits_ahead behind_digits minus unsigned
    whole fraction digits is_tail is_number fits_format codes simple first_of among chosen not_used missing wrong_format wrong_code
    text_fault component_fault any_filled element_fault page_fault
fault_on page segment = page_fault edifact page (bytes_of segment)

-- at a node of PRICAT 2.0d
unfoldable pub at : ℕ → String → ℕ
unfolding fault_on pages20d page_of
at node segment = fault_on (page_of node) segment

-- "`PRI+CAL:168.06::::ANN'` fits; with three colons 19"
colons
    : (at 19 "PRI+CAL:168.06::::ANN'" ≡ 0)
    × (at 19 "PRI+CAL:168.06:::ANN'" ≡ 19)
unfolding at
colons = (refl, refl)

-- "`CAL:.5` and `CAL:5.` 19", and what else is no number
sides
    : (at 19 "PRI+CAL:.5'" ≡ 19)
    × (at 19 "PRI+CAL:5.'" ≡ 19)
    × (at 19 "PRI+CAL:-'" ≡ 19)
    × (at 19 "PRI+CAL:-.5'" ≡ 19)
    × (at 19 "PRI+CAL:1.2.3'" ≡ 19)
    × (at 19 "PRI+CAL:1,5'" ≡ 19)
    × (at 19 "PRI+CAL: 1'" ≡ 19)
    × (at 19 "PRI+CAL:-0.00'" ≡ 0)
unfolding at
sides = (refl, refl, refl, refl, refl, refl, refl, refl)

-- "fifteen digits fit with sign and mark, sixteen give 19"
fifteen
    : (at 19 "PRI+CAL:-123456789012.345'" ≡ 0)
    × (at 19 "PRI+CAL:1234567890123456'" ≡ 19)
    × (at 24 "PRI+CAL:-000000000000.001'" ≡ 0)
    × (at 24 "PRI+CAL:-0000000000000.001'" ≡ 19)
unfolding at
fifteen = (refl, refl, refl, refl)

-- "`PRI+CAL:1:X'` 18"; the second kind's page ends behind the price
unused-price
    : (at 19 "PRI+CAL:1:X'" ≡ 18)
    × (at 24 "PRI+CAL:1::::ANN'" ≡ 18)
unfolding at
unused-price = (refl, refl)

-- "`RFF+Z13:2700'` 19, `27004` 20"; sign and mark do not count towards n5
checks
    : (at 8 "RFF+Z13:2700'" ≡ 19)
    × (at 8 "RFF+Z13:27004'" ≡ 20)
    × (at 8 "RFF+Z13:27003'" ≡ 0)
    × (at 8 "RFF+Z13:-27001'" ≡ 20)
    × (at 8 "RFF+Z13:2700.1'" ≡ 20)
unfolding at
checks = (refl, refl, refl, refl, refl)

-- "`NAD+MR+9900259000002:::293'` 17"; a simple element has one component
agency
    : (at 9 "NAD+MR+9900259000002:::293'" ≡ 17)
    × (at 9 "NAD+MR+9900259000002::293'" ≡ 0)
    × (at 10 "NAD+MS:X+9900259000002::293'" ≡ 18)
unfolding at
agency = (refl, refl, refl)

-- "`RNG+10+H87:9:9'` fits, `RNG+10+:9'` 17"; each kind has its own units
ranges
    : (at 20 "RNG+10+H87:9:9'" ≡ 0)
    × (at 20 "RNG+10+:9'" ≡ 17)
    × (at 20 "RNG+10+KWH:9'" ≡ 20)
    × (at 25 "RNG+10+KWH:9'" ≡ 0)
    × (at 25 "RNG+10+DAY:9'" ≡ 20)
unfolding at
ranges = (refl, refl, refl, refl, refl)

-- "`BGM+Z32+A1+++11'` fits"; the place decides before the number, and length before code
sheets
    : (at 2 "BGM+Z32+A1+++11'" ≡ 0)
    × (at 2 "BGM+Z32++X'" ≡ 17)
    × (at 2 "BGM+Z32:X'" ≡ 18)
    × (at 2 "BGM+Z321+A1'" ≡ 19)
    × (at 2 "BGM+z32+A1'" ≡ 20)
unfolding at
sheets = (refl, refl, refl, refl, refl)

-- releases are removed before anything is judged
released
    : (at 2 "BGM+Z?32+A1'" ≡ 0)
    × (at 8 "RFF+Z13:?27001'" ≡ 0)
    × (at 19 "PRI+CAL:?-1?.5'" ≡ 0)
    × (at 26 "UNT+?7+1'" ≡ 0)
unfolding at
released = (refl, refl, refl, refl)

-- behind the last row all must be empty, and separators are allowed without bound
behind
    : (at 2 "BGM+Z54+A1++'" ≡ 0)
    × (at 15 "PGI+9::++:+'" ≡ 0)
    × (at 22 "PGI+Z01+++++++X'" ≡ 18)
    × (at 6 "RFF+ACW:455022257:::::::::X'" ≡ 18)
    × (at 26 "UNT+8+1+X'" ≡ 18)
unfolding at
behind = (refl, refl, refl, refl, refl)

-- counts are numbers here: that they are digits alone is for 21 and 22
counts
    : (at 26 "UNT+0000007+1'" ≡ 19)
    × (at 26 "UNT+07+1'" ≡ 0)
    × (at 26 "UNT+)+1'" ≡ 19)
    × (at 16 "LIN+1.0++A:Z01'" ≡ 0)
    × (at 16 "LIN+A++A:Z01'" ≡ 19)
unfolding at
counts = (refl, refl, refl, refl, refl)

-- missing and wrong parts of a header
header
    : (at 1 "UNH+1+PRICAT:D:20B:UN:2.0d'" ≡ 0)
    × (at 1 "UNH+1+PRICAT:D:20B:UN'" ≡ 17)
    × (at 1 "UNH+1+PRICAT:D:20B:UN:2.0c'" ≡ 20)
    × (at 5 "DTM+157:201403130900?+00'" ≡ 17)
    × (at 4 "DTM+137:201403130900?+00:203'" ≡ 20)
    × (at 12 "CTA+IC+:B. Zweistein'" ≡ 0)
    × (at 12 "CTA+IC+X:B. Zweistein'" ≡ 18)
    × (at 14 "CUX+2::8'" ≡ 17)
unfolding at
header = (refl, refl, refl, refl, refl, refl, refl, refl)

-- an optional composite may stand empty
descriptions
    : (at 18 "IMD+C+Z31'" ≡ 0)
    × (at 18 "IMD+X+Z16+:::a?+b'" ≡ 0)
    × (at 18 "IMD+X+Z26'" ≡ 20)
    × (at 18 "IMD+X+Z16+Z12'" ≡ 20)
    × (at 18 "IMD+X+Z16+Z08:X'" ≡ 18)
    × (at 17 "PIA+1+FX12:Z06'" ≡ 0)
    × (at 17 "PIA+1+FX12'" ≡ 17)
unfolding at
descriptions = (refl, refl, refl, refl, refl, refl, refl)

-- a must row of an optional composite: nothing stands, it stands, it is missing beside another one that stands, even beyond the last row, and
-- an unused one further left decides first
abbrev described : Page
described = optional (C273 must) ∷ []

wanted_when_begun
    : (fault_on described "IMD+'" ≡ 0)
    × (fault_on described "IMD+:::X'" ≡ 0)
    × (fault_on described "IMD+Z08'" ≡ 17)
    × (fault_on described "IMD+::::X'" ≡ 17)
    × (fault_on described "IMD+:X'" ≡ 18)
unfolding fault_on C273
wanted_when_begun = (refl, refl, refl, refl, refl)
