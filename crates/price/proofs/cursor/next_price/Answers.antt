-- `price::cursor::next_price` meets its contract.
use Rattle.price.proofs.Cursors.{price-past, price-front}
use Rattle.price.proofs.cursor.next_price.Goals as goal

pub returns-then-c : goal.returns-then-c
returns-then-c c = price-past _ _ _ _ c.if-c.true

pub returns : goal.returns
returns c = price-front _ _ _ _ _ _ _ c.if-c.false c.until.ensures.syntax c.until.ensures.bytes c.next_from.ensures
