-- The composites of the PRICAT pages, by the numbers that the guide gives them; docs/PAGES.md has them as tables, with the doubtful points.
-- Each line is a data element, its number behind it.
use Prim.Native.String.{String}
use Rattle.std.specs.Prelude.{List, [], ◌∷◌}
use Rattle.value.specs.declared.formats.Format.{Format}
use Rattle.value.specs.declared.formats.Format.TheVariants.{AnUpTo, NUpTo}
use Rattle.guide.specs.Page.{Status, must, may, Row, used, unused, codes, any}

-- the kind of message, with its edition
unfoldable pub S009 : String → List Row
S009 edition =
    used must (AnUpTo 6) (codes ("PRICAT" ∷ []))  -- 0065
    ∷ used must (AnUpTo 3) (codes ("D" ∷ []))  -- 0052
    ∷ used must (AnUpTo 3) (codes ("20B" ∷ []))  -- 0054
    ∷ used must (AnUpTo 2) (codes ("UN" ∷ []))  -- 0051
    ∷ used must (AnUpTo 6) (codes (edition ∷ []))  -- 0057
    ∷ []

-- the kind of sheet
unfoldable pub C002 : List Row
C002 =
    used must (AnUpTo 3) (codes ("Z04" ∷ "Z32" ∷ "Z54" ∷ "Z64" ∷ "Z67" ∷ "Z70" ∷ "Z77" ∷ []))  -- 1001
    ∷ []

-- the number of the document
unfoldable pub C106 : List Row
C106 =
    used must (AnUpTo 70) any  -- 1004
    ∷ []

-- a date, by its qualifiers and the code of its form
unfoldable pub C507 : List String → String → List Row
C507 qualifiers form =
    used must (AnUpTo 3) (codes qualifiers)  -- 2005
    ∷ used must (AnUpTo 35) any  -- 2380
    ∷ used must (AnUpTo 3) (codes (form ∷ []))  -- 2379
    ∷ []

-- a reference, by its qualifier, format and codes
unfoldable pub C506 : String → Format → List String → List Row
C506 qualifier format references =
    used must (AnUpTo 3) (codes (qualifier ∷ []))  -- 1153
    ∷ used must format (codes references)  -- 1154
    ∷ []

-- a market partner
unfoldable pub C082 : List Row
C082 =
    used must (AnUpTo 35) any  -- 3039
    ∷ unused  -- 1131
    ∷ used must (AnUpTo 3) (codes ("9" ∷ "293" ∷ "332" ∷ []))  -- 3055
    ∷ []

-- a control area
unfoldable pub C517 : List Row
C517 =
    used must (AnUpTo 35) any  -- 3225
    ∷ []

-- a person to ask
unfoldable pub C056 : List Row
C056 =
    unused  -- 3413
    ∷ used must (AnUpTo 256) any  -- 3412
    ∷ []

-- an address or a telephone number
unfoldable pub C076 : List Row
C076 =
    used must (AnUpTo 512) any  -- 3148
    ∷ used must (AnUpTo 3) (codes ("EM" ∷ "FX" ∷ "TE" ∷ "AJ" ∷ "AL" ∷ []))  -- 3155
    ∷ []

-- a currency
unfoldable pub C504 : List Row
C504 =
    used must (AnUpTo 3) (codes ("2" ∷ []))  -- 6347
    ∷ used must (AnUpTo 3) (codes ("EUR" ∷ []))  -- 6345
    ∷ used must (AnUpTo 3) (codes ("8" ∷ []))  -- 6343
    ∷ []

-- an article or a price key, by the kinds of its number
unfoldable pub C212 : List String → List Row
C212 kinds =
    used must (AnUpTo 35) any  -- 7140
    ∷ used must (AnUpTo 3) (codes kinds)  -- 7143
    ∷ []

-- "IMD 7081: Z15 to Z25, Z28 to Z32, Z41"
unfoldable pub services : List String
services =
    "Z15" ∷ "Z16" ∷ "Z17" ∷ "Z18" ∷ "Z19" ∷ "Z20" ∷ "Z21" ∷ "Z22" ∷ "Z23" ∷ "Z24" ∷ "Z25"
    ∷ "Z28" ∷ "Z29" ∷ "Z30" ∷ "Z31" ∷ "Z32" ∷ "Z41" ∷ []

-- a service
unfoldable pub C272 : List Row
C272 =
    used must (AnUpTo 3) (codes services)  -- 7081
    ∷ []

-- its description, by the status of its text
unfoldable pub C273 : Status → List Row
C273 text =
    used may (AnUpTo 17) (codes ("Z08" ∷ "Z09" ∷ "Z10" ∷ "Z11" ∷ []))  -- 7009
    ∷ unused  -- 1131
    ∷ unused  -- 3055
    ∷ used text (AnUpTo 256) any  -- 7008
    ∷ []

-- a price, by the rows behind its amount
unfoldable pub C509 : List Row → List Row
C509 rows =
    used must (AnUpTo 3) (codes ("CAL" ∷ []))  -- 5125
    ∷ used must (NUpTo 15) any  -- 5118
    ∷ rows

-- the basis of a price and its unit
unfoldable pub basis : List Row
basis =
    unused  -- 5375
    ∷ unused  -- 5387
    ∷ used may (NUpTo 9) any  -- 5284
    ∷ used may (AnUpTo 8) (codes ("ANN" ∷ []))  -- 6411
    ∷ []

-- a range, by its units
unfoldable pub C280 : List String → List Row
C280 units =
    used must (AnUpTo 8) (codes units)  -- 6411
    ∷ used must (NUpTo 18) any  -- 6162
    ∷ used may (NUpTo 18) any  -- 6152
    ∷ []
