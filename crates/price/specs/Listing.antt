-- The prices of any list of segments, by the first three bytes of each. For the segments of a message that fits the guide they are the tree's
-- (proofs/tree/Tree).
use Rattle.std.specs.Prelude.{ℕ, ◌+◌, Bool, true, false, cond, List, [], ◌∷◌}
use Rattle.bytewise.specs.Bytes.{bytes_of, begins}
use Rattle.cut.specs.Segments.{Segment}
use Rattle.price.specs.Numbers.{Listed}
use Rattle.price.specs.declared.kinds.Kind.{Kind}
use Rattle.price.specs.declared.kinds.Kind.TheVariants.{Lin, Pri, Rng, Other}

unfoldable pub kind_of : List ℕ → Kind
kind_of b = cond (begins (bytes_of "LIN") b) Lin (cond (begins (bytes_of "PRI") b) Pri (cond (begins (bytes_of "RNG") b) Rng Other))

abbrev pub is_pri : Kind → Bool
is_pri Pri = true
is_pri Lin = false
is_pri Rng = false
is_pri Other = false

-- the segment s, if it is a RNG
abbrev pub rng_by : Kind → Segment → List Segment
rng_by Rng s = s ∷ []
rng_by Lin s = []
rng_by Pri s = []
rng_by Other s = []

-- the RNG of a price whose PRI stands right before the segments ss
unfoldable pub rng_next : List Segment → List Segment
rng_next [] = []
rng_next (s ∷ ss) = rng_by (kind_of s.bytes) s

-- a LIN begins the next position
abbrev pub number_by : Kind → ℕ → ℕ
number_by Lin n = n + 1
number_by Pri n = n
number_by Rng n = n
number_by Other n = n

abbrev pub lin_by : Kind → Segment → Segment → Segment
lin_by Lin s lin = s
lin_by Pri s lin = lin
lin_by Rng s lin = lin
lin_by Other s lin = lin

-- a PRI gives a price
abbrev pub price_by : Kind → Listed → List Listed → List Listed
price_by Pri q qs = q ∷ qs
price_by Lin q qs = qs
price_by Rng q qs = qs
price_by Other q qs = qs

-- the prices of the segments ss, which come after n positions, of which the last has this LIN
unfoldable pub prices_from : ℕ → Segment → List Segment → List Listed
prices_from n lin [] = []
prices_from n lin (s ∷ ss) =
    price_by (kind_of s.bytes) (record { position = n; lin = lin; price = record { pri = s; rng = rng_next ss } })
    (prices_from (number_by (kind_of s.bytes) n) (lin_by (kind_of s.bytes) s lin) ss)

-- before the first LIN: no article stands in it
abbrev pub no_lin : ℕ → Segment
no_lin start = record { start = start; bytes = []; piece = false }

-- the prices of the segments of a message that begins at the place start
unfoldable pub prices_of : ℕ → List Segment → List Listed
prices_of start ss = prices_from 0 (no_lin start) ss
