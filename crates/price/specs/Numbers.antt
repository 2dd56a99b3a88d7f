-- The eight numbers of a price. Document 01, 'What is handed out'; which component is which stands on the pages of LIN and PRI.
use Rattle.std.specs.Prelude.{ℕ, ◌-◌, false, cond, List, [], ◌∷◌, ltb, ℤ, pos, negsuc, Option, Some, None}
use Rattle.cut.specs.declared.service.Syntax.{Syntax}
use Rattle.bytewise.specs.Bytes.{bytes_of}
use Rattle.cut.specs.Segments.{Segment}
use Rattle.element.specs.Elements.{component}
use Rattle.element.specs.Components.{components, span_in}
use Rattle.plain.specs.Plain.{plain, same}
use Rattle.value.specs.Number.{number_of}
use Rattle.element.specs.declared.components.Span.{Span}
use Rattle.value.specs.declared.prices.Amount.{Amount}
use Rattle.guide.specs.Sheet.{Price}
use Rattle.price.specs.declared.numbers.Numbers.{Numbers}

-- a price of a message: the running number of its position, the LIN of that one, and its PRI with its RNG
pub record Listed : Type 0 where
  pub position : ℕ
  pub lin : Segment
  pub price : Price

-- where the article stands in a LIN that begins at the place p: its 7140, the first component of element 3
unfoldable pub article_in : Syntax → ℕ → List ℕ → Span
article_in y p lin = span_in p 3 0 (components y p lin)

-- "article's place from the message's start or -1": an empty one is absent
unfoldable pub article_place : ℕ → Span → ℤ
article_place base a = cond (ltb a.start a.end) (pos (a.start - base)) (negsuc 0)

-- "its length with releases or 0"
unfoldable pub article_length : Span → ℤ
article_length a = pos (a.end - a.start)

-- the price of a PRI: its 5118, the second component of element 1
unfoldable pub price_in : Syntax → List ℕ → Option Amount
price_in y pri = number_of y (plain y false (component y pri 1 1))

-- "amount; decimals": of what is no price, 0 and 0
abbrev pub amount_of : Option Amount → ℤ
amount_of (Some a) = a.amount
amount_of None = pos 0

abbrev pub decimals_of : Option Amount → ℤ
decimals_of (Some a) = pos a.decimals
decimals_of None = pos 0

-- "unit's rank on its page from 1, or 0": PRI's 6411, the sixth component of element 1; the page has ANN alone
unfoldable pub unit_rank : Syntax → List ℕ → ℤ
unit_rank y pri = cond (same (plain y false (component y pri 1 5)) (bytes_of "ANN")) (pos 1) (pos 0)

-- "place of RNG or -1"
unfoldable pub place_of_first : ℕ → List Segment → ℤ
place_of_first base [] = negsuc 0
place_of_first base (s ∷ ss) = pos (s.start - base)

-- the numbers of a price; places count from the message's start, `base`
unfoldable pub numbers_of : Syntax → ℕ → Listed → Numbers
numbers_of y base q =
    record {
      position = pos q.position;
      article = article_place base (article_in y q.lin.start q.lin.bytes);
      length = article_length (article_in y q.lin.start q.lin.bytes);
      amount = amount_of (price_in y q.price.pri.bytes);
      decimals = decimals_of (price_in y q.price.pri.bytes);
      unit = unit_rank y q.price.pri.bytes;
      pri = pos (q.price.pri.start - base);
      rng = place_of_first base q.price.rng;
    }
