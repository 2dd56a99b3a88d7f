-- `print::rows::put_count` meets its contract.
use Prim.Native.Nat.{◌≤◌}
use mathlib.Core.Path.{refl}
use native.Mathlib.Omega.{arith}
use lib.ListN.{length}
use Rattle.value.specs.Text.{digits_in}
use Rattle.value.proofs.Texts.{digits-few}
use Rattle.print.proofs.Putting.{text_end, count-text-is, word-put}
use Rattle.print.proofs.rows.put_count.Goals as goal

pub returns : goal.returns
returns c =
    let few : length (digits_in 20 c.args.n) ≤ 20 = digits-few 20 19 _ (omega arith) in
    let each =
    word-put _ _ _ _ _ _ _ (count-text-is _) few
    (text_end _ _ _ _ few c.count_text-size.ensures.value c.count_text-size.ensures.out_after refl)
    c.put_word.ensures.value c.put_word.ensures.out_after in
    record { value = each.0; out_after = each.1 }
