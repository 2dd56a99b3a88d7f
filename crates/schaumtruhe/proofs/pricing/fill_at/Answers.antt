-- `schaumtruhe::pricing::fill_at` meets its contract.
use Rattle.std.proofs.lemmas.Result.{err_from_is_err_and}
use Rattle.schaumtruhe.proofs.pricing.Filling.{priced-written, row_written, priced_refused, row_unchanged}
use Rattle.schaumtruhe.proofs.pricing.fill_at.Goals as goal

pub returns-in_err-sheet : goal.returns-in_err-sheet
returns-in_err-sheet c =
    let p = err_from_is_err_and c.from_residual.result c.from_residual.ensures.1 in
    let lost = c.in_err-sheet.ensures in
    record {
      value = rw (p.1, p.2) (priced_refused _ _ _ _ lost _ _);
      row_after = row_unchanged _ _ _ _ lost _ _;
    }

pub returns : goal.returns
returns c =
    let sheet = c.in_ok-sheet.ensures in
    let fill = c.fill.ensures in
    record {
      value = priced-written _ _ _ _ sheet _ _ _ _ fill.value fill.row_after;
      row_after = row_written _ _ _ _ sheet _ _ _ _ fill.value fill.row_after;
    }
