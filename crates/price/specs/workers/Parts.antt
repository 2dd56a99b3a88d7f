-- What the workers of this crate promise each other; no public call cites these.
use Rattle.std.specs.Prelude.{ℕ, ◌+◌, ◌-◌, ◌*◌, ◌/◌, ◌≤◌, ◌≡◌, false, cond, List, [], ◌∷◌, ◌++◌, leb, ltb, length, take, drop, ℤ, Option, Some, None}
use Rattle.bytewise.specs.Bytes.{part}
use Rattle.cut.specs.Segments.{Segment, end_of}
use Rattle.element.specs.declared.components.Span.{Span}
use Rattle.price.specs.declared.kinds.Kind.{Kind}
use Rattle.price.specs.declared.kinds.Kind.TheVariants.{Lin, Pri, Rng, Other}
use Rattle.price.specs.declared.spots.Spot.{Spot}
use Rattle.price.specs.declared.spots.Held.{Held}
use Rattle.price.specs.declared.numbers.Numbers.{Numbers}
use Rattle.price.specs.Numbers.{Listed}
use Rattle.price.specs.Listing.{kind_of, rng_by}
use Rattle.price.specs.Rows.{eight}

-- the first of some segments, with its kind
unfoldable pub head_spot : List Segment → Option Spot
head_spot [] = None
head_spot (s ∷ ss) = Some (record { start = s.start; kind = kind_of s.bytes; end = end_of s })

-- before the first segment of the message that begins at a place: no position, and its LIN has no byte
abbrev pub first_held : ℕ → Held
first_held start = record { number = 0; lin = record { start = start; end = start } }

-- how many prices a segment of this kind adds
abbrev pub add_by : Kind → ℕ
add_by Pri = 1
add_by Lin = 0
add_by Rng = 0
add_by Other = 0

-- the position after a segment of this kind
abbrev pub moved_by : Kind → Held → ℕ → ℕ → Held
moved_by Lin p start end = record { number = p.number + 1; lin = record { start = start; end = end } }
moved_by Pri p start end = p
moved_by Rng p start end = p
moved_by Other p start end = p

-- the segment from start to end of the delivery; whether it is a piece makes no difference to a price's numbers
abbrev pub segment_in : List ℕ → ℕ → ℕ → Segment
segment_in d start end = record { start = start; bytes = part start end d; piece = false }

-- the RNG of a price, from the segment that comes next
unfoldable pub rng_in : List ℕ → Option Spot → List Segment
rng_in d (Some s) = rng_by s.kind (segment_in d s.start s.end)
rng_in d None = []

-- a price, by its places in the delivery
abbrev pub listed_in : List ℕ → Held → ℕ → ℕ → Option Spot → Listed
listed_in d p start end next =
    record {
      position = p.number;
      lin = segment_in d p.lin.start p.lin.end;
      price = record { pri = segment_in d start end; rng = rng_in d next };
    }

-- the row with the numbers of a price as the n-th, if it fits whole
unfoldable pub put_row : List ℤ → ℕ → Numbers → List ℤ
put_row row n p = cond (ltb n (length row / 8)) (take (n * 8) row ++ eight p ++ drop (n * 8 + 8) row) row

-- the row after a segment of this kind, where `seen` prices came before and those from the k-th on are wanted
unfoldable pub put_found : Kind → ℕ → ℕ → Numbers → List ℤ → List ℤ
put_found Pri k seen p row = cond (leb k seen) (put_row row (seen - k) p) row
put_found Lin k seen p row = row
put_found Rng k seen p row = row
put_found Other k seen p row = row

-- where the walk stands, the position lies in the message, and its number is no larger than that is long
pub record Within (p : Held) (d : List ℕ) : Type 0 where
  pub number : p.number ≤ length d
  pub to : p.lin.start ≤ length d

-- the LIN of a position, by its places in the delivery
pub record Holding (d : List ℕ) (p : Span) (lin : Segment) : Type 0 where
  pub starts : lin.start ≡ p.start
  pub bytes : lin.bytes ≡ part p.start p.end d

-- the LIN of the first of these prices stands at p; of none, it is an empty part
unfoldable pub HeldFirst : ℕ → List ℕ → List Listed → Span → Type 0
HeldFirst start d [] p = p ≡ record { start = start; end = start }
HeldFirst start d (q ∷ qs) p = Holding d p q.lin × (p.end ≤ length d)

-- ... of the k-th
unfoldable pub HeldAt : ℕ → List ℕ → ℕ → List Listed → Span → Type 0
HeldAt start d k qs p = HeldFirst start d (drop k qs) p
