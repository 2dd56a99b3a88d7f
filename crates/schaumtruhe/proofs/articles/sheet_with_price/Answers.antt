-- `schaumtruhe::articles::sheet_with_price` meets its contract.
use Rattle.std.proofs.lemmas.Result.{err_from_is_err_and}
use Rattle.schaumtruhe.proofs.ArticlePlaces.{sheet-refused, no_price, has-price}
use Rattle.schaumtruhe.proofs.articles.sheet_with_price.Goals as goal

pub returns-in_err-sheet : goal.returns-in_err-sheet
returns-in_err-sheet c =
    let p = err_from_is_err_and c.from_residual.result c.from_residual.ensures.1 in
    record { refusal = rw (p.1, p.2) (sheet-refused _ _ _ _ _ c.in_err-sheet.ensures); sheet = rw p.1 tt }

pub returns-then-total-k : goal.returns-then-total-k
returns-then-total-k c =
    record { refusal = no_price _ _ _ _ _ c.in_ok-sheet.ensures _ c.total.ensures c.if-total-k.true; sheet = tt }

pub returns : goal.returns
returns c = record { refusal = has-price _ _ _ _ _ c.in_ok-sheet.ensures _ c.total.ensures c.if-total-k.false; sheet = c.in_ok-sheet.ensures }
