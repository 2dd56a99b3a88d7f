-- The prices of a message one after the other: what is told of each, and what a cursor's step answers, for every cursor.
use Rattle.std.specs.Prelude.{ℕ, cond, List, [], ◌∷◌, ltb, ℤ, Option, Some, None}
use Rattle.cut.specs.declared.service.Syntax.{Syntax}
use Rattle.bytewise.specs.Bytes.{part}
use Rattle.cut.specs.Segments.{Segment, end_of, segments_at}
use Rattle.element.specs.Elements.{component}
use Rattle.element.specs.Components.{component_at}
use Rattle.price.specs.declared.kinds.Kind.{Kind}
use Rattle.price.specs.declared.kinds.Kind.TheVariants.{Lin, Pri, Rng, Other}
use Rattle.price.specs.declared.spots.Held.{Held}
use Rattle.price.specs.declared.cursor.Cursor.{Cursor}
use Rattle.price.specs.declared.cursor.Price.{Price}
use Rattle.price.specs.Numbers.{Listed, price_in, amount_of, decimals_of}
use Rattle.price.specs.Listing.{kind_of}
use Rattle.price.specs.workers.Parts.{first_held, moved_by}

-- "position article amount decimals": the article as it stands, with its releases; an absent one has no bytes
pub record Told : Type 0 where
  pub position : ℕ
  pub article : List ℕ
  pub amount : ℤ
  pub decimals : ℤ

-- what is told of a price
unfoldable pub told_of : Syntax → Listed → Told
told_of y q =
    record {
      position = q.position;
      article = component y q.lin.bytes 3 0;
      amount = amount_of (price_in y q.price.pri.bytes);
      decimals = decimals_of (price_in y q.price.pri.bytes);
    }

-- before the first price of the message that begins at a place
abbrev pub first_cursor : ℕ → Cursor
first_cursor start = record { at = start; held = first_held start }

-- the price of a PRI of these bytes that ends at the place e, in the position p, and the cursor behind it
unfoldable pub price_here : Syntax → List ℕ → Held → List ℕ → ℕ → Price × Cursor
price_here y d p pri e = (
  record {
    position = p.number;
    start = (component_at y d p.lin.start p.lin.end 3 0).start;
    end = (component_at y d p.lin.start p.lin.end 3 0).end;
    amount = amount_of (price_in y pri);
    decimals = decimals_of (price_in y pri);
  },
  record { at = e; held = p },
)

abbrev pub next_by : Kind → Price × Cursor → Option (Price × Cursor) → Option (Price × Cursor)
next_by Pri here later = Some here
next_by Lin here later = later
next_by Rng here later = later
next_by Other here later = later

-- the first price of some segments, which come in the position p
unfoldable pub next_in : Syntax → List ℕ → Held → List Segment → Option (Price × Cursor)
next_in y d p [] = None
next_in y d p (s ∷ ss) =
    next_by (kind_of s.bytes) (price_here y d p s.bytes (end_of s)) (next_in y d (moved_by (kind_of s.bytes) p s.start (end_of s)) ss)

-- next_price, in the bytes d up to the message's end; a cursor with more positions than bytes before it is none of a message
unfoldable pub next_price : Syntax → List ℕ → Cursor → Option (Price × Cursor)
next_price y d c = cond (ltb c.at c.held.number) None (next_in y d c.held (segments_at y d c.at))

abbrev pub told_by : Kind → Told → List Told → List Told
told_by Pri t ts = t ∷ ts
told_by Lin t ts = ts
told_by Rng t ts = ts
told_by Other t ts = ts

abbrev pub told_here : Syntax → List ℕ → Held → List ℕ → Told
told_here y d p pri =
    record {
      position = p.number;
      article = component y (part p.lin.start p.lin.end d) 3 0;
      amount = amount_of (price_in y pri);
      decimals = decimals_of (price_in y pri);
    }

-- what is told of the prices of some segments, which come in the position p
unfoldable pub told_in : Syntax → List ℕ → Held → List Segment → List Told
told_in y d p [] = []
told_in y d p (s ∷ ss) =
    told_by (kind_of s.bytes) (told_here y d p s.bytes) (told_in y d (moved_by (kind_of s.bytes) p s.start (end_of s)) ss)

-- what is told of the prices from a cursor on
unfoldable pub told_from : Syntax → List ℕ → Cursor → List Told
told_from y d c = cond (ltb c.at c.held.number) [] (told_in y d c.held (segments_at y d c.at))
