-- `print::rows::put_amount` meets its contract.
use Prim.Native.Nat.{◌≤◌}
use mathlib.Core.Path.{refl, ap}
use lib.ListN.{length}
use Rattle.value.specs.Text.{text_of}
use Rattle.value.proofs.ValueFace.{text-fits}
use mir.Syntax.{w64}
use mir.Val.{to_z, of_z}
use mir.Facts.{to_z-of_z}
use Rattle.print.proofs.Putting.{text_end, word-put}
use Rattle.print.proofs.rows.put_amount.Goals as goal

pub returns : goal.returns
returns c =
    let few : length (text_of (to_z w64 (of_z w64 c.args.z))) ≤ 20 = rw (to_z-of_z c.ranges.z) (text-fits _ c.ranges.z) in
    let each =
    word-put _ _ _ _ _ _ _ (ap text_of (to_z-of_z c.ranges.z)) few
    (text_end _ _ _ _ few c.decimal_text-size.ensures.value c.decimal_text-size.ensures.out_after refl)
    c.put_word.ensures.value c.put_word.ensures.out_after in
    record { value = each.0; out_after = each.1 }
