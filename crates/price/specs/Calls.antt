-- What each public call answers, for every delivery, place and number.
use Rattle.std.specs.Prelude.{ℕ, ◌+◌, min, ◌≡◌, cond, List, [], ◌∷◌, map, ltb, length, drop, ℤ}
use Rattle.std.specs.Borrow.{Bor}
use Rattle.cut.specs.declared.service.Syntax.{Syntax}
use Rattle.bytewise.specs.Bytes.{part}
use Rattle.cut.specs.Segments.{segments_of}
use Rattle.element.specs.declared.components.Span.{Span}
use Rattle.price.specs.declared.numbers.Numbers.{Numbers}
use Rattle.price.specs.declared.filling.Filled.{Filled}
use Rattle.price.specs.Numbers.{Listed, article_in, numbers_of}
use Rattle.price.specs.Listing.{prices_of}
use Rattle.price.specs.Rows.{fitting, filled_row}

-- the prices of the message from start to end
unfoldable pub prices_in : Syntax → List ℕ → ℕ → ℕ → List Listed
prices_in y d start end = prices_of start (segments_of y start (part start end d))

-- "from the k-th on (k from 0)": the numbers of these prices
unfoldable pub numbers_from : Syntax → ℕ → ℕ → List Listed → List Numbers
numbers_from y start k qs = map (numbers_of y start) (drop k qs)

-- fill: "how many were written and how many the message has", where these are its prices
unfoldable pub filled_of : Syntax → ℕ → ℕ → List Listed → List ℤ → Filled
filled_of y start k qs row = record { written = length (fitting row (numbers_from y start k qs)); total = length qs }

-- and the whole row after it
unfoldable pub row_after : Syntax → ℕ → ℕ → List Listed → List ℤ → List ℤ
row_after y start k qs row = filled_row (numbers_from y start k qs) row

-- the article of the first of these prices; an absent one, and that of no price, is the empty part at the place m
unfoldable pub first_article : Syntax → ℕ → List Listed → Span
first_article y m [] = record { start = m; end = m }
first_article y m (q ∷ qs) =
    cond (ltb (article_in y q.lin.start q.lin.bytes).start (article_in y q.lin.start q.lin.bytes).end)
    (article_in y q.lin.start q.lin.bytes)
    (record { start = m; end = m })

-- article_at: the article of the k-th price: "an absent one is the empty part at the message's start", which counts as the delivery's end
-- where it is past that
unfoldable pub article_at : Syntax → List ℕ → ℕ → ℕ → ℕ → Span
article_at y d start end k = first_article y (min start (length d)) (drop k (prices_in y d start end))

-- r is the part of s from a to e itself: its bytes, in the same block, at that place
pub record IsPart (s r : Bor (List ℕ)) (a e : ℕ) : Type 0 where
  pub bytes : r.now ≡ part a e s.now
  pub block : r.ref_ptr.0 ≡ s.ref_ptr.0
  pub offset : r.ref_ptr.1 ≡ s.ref_ptr.1 + a
