-- `price::cursor::price_here` meets its contract.
use Rattle.price.proofs.numbers.Answers.{kept, price-read}
use Rattle.price.proofs.Cursors.{price_made}
use Rattle.price.proofs.cursor.price_here.Goals as goal

pub returns : goal.returns
returns c =
    price_made _ _ _ _ _ _ _ _ _ c.component_at-a.ensures
    (price-read _ _ _ _ _ _ c.component_at-s.ensures c.number_of-n.ensures)
    (kept _ _ (record { sfits = c.amount_in.type_inv }) c.amount_in.ensures)
    (kept _ _ (record { sfits = c.decimals_in.type_inv }) c.decimals_in.ensures)
