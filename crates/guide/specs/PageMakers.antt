-- What the pages of the PRICAT editions are made of, segment by segment, by what differs from node to node and from edition to edition. Each line
-- is an element, its number behind it where its composite does not give it.
use Prim.Native.String.{String}
use Rattle.std.specs.Prelude.{List, [], ◌∷◌}
use Rattle.value.specs.declared.formats.Format.{Format}
use Rattle.value.specs.declared.formats.Format.TheVariants.{AnUpTo, NUpTo}
use Rattle.guide.specs.Page.{Status, must, may, Row, used, unused, Page, codes, any, required, optional, simple}
use Rattle.guide.specs.Composites.{S009, C002, C106, C507, C506, C082, C517, C056, C076, C504, C212, C272, C273, C509, C280}

-- an element with one code of up to three bytes
unfoldable pub coded : String → Row
coded c = used must (AnUpTo 3) (codes (c ∷ []))

-- by the edition
unfoldable pub UNH : String → Page
UNH edition =
    simple (used must (AnUpTo 14) any)  -- 0062
    ∷ required (S009 edition)
    ∷ []

unfoldable pub BGM : Page
BGM =
    required C002
    ∷ required C106
    ∷ simple unused  -- 1225
    ∷ simple unused  -- 4343
    ∷ simple (used may (AnUpTo 3) (codes ("11" ∷ [])))  -- 1373
    ∷ []

-- by the qualifiers and the code of the date's form
unfoldable pub DTM : List String → String → Page
DTM qualifiers form =
    required (C507 qualifiers form)
    ∷ []

-- by the qualifier, and the format and the codes of the reference
unfoldable pub RFF : String → Format → List String → Page
RFF qualifier format references =
    required (C506 qualifier format references)
    ∷ []

-- by the qualifier
unfoldable pub NAD : String → Page
NAD qualifier =
    simple (coded qualifier)  -- 3035
    ∷ required C082
    ∷ []

unfoldable pub LOC : Page
LOC =
    simple (coded "231")  -- 3227
    ∷ required C517
    ∷ []

unfoldable pub CTA : Page
CTA =
    simple (coded "IC")  -- 3139
    ∷ required C056
    ∷ []

unfoldable pub COM : Page
COM =
    required C076
    ∷ []

unfoldable pub CUX : Page
CUX =
    required C504
    ∷ []

-- by the kind of the group
unfoldable pub PGI : String → Page
PGI kind =
    simple (coded kind)  -- 5379
    ∷ []

-- by the kinds of an article's number
unfoldable pub LIN : List String → Page
LIN kinds =
    simple (used must (NUpTo 6) any)  -- 1082
    ∷ simple unused  -- 1229
    ∷ required (C212 kinds)
    ∷ []

unfoldable pub PIA : Page
PIA =
    simple (coded "1")  -- 4347
    ∷ required (C212 ("Z06" ∷ []))
    ∷ []

-- by the status of the text
unfoldable pub IMD : Status → Page
IMD text =
    simple (used must (AnUpTo 3) (codes ("C" ∷ "X" ∷ [])))  -- 7077
    ∷ required C272
    ∷ optional (C273 text)
    ∷ []

-- by the rows behind the amount
unfoldable pub PRI : List Row → Page
PRI rows =
    required (C509 rows)
    ∷ []

-- by the units
unfoldable pub RNG : List String → Page
RNG units =
    simple (coded "10")  -- 6167
    ∷ required (C280 units)
    ∷ []

unfoldable pub UNT : Page
UNT =
    simple (used must (NUpTo 6) any)  -- 0074
    ∷ simple (used must (AnUpTo 14) any)  -- 0062
    ∷ []
