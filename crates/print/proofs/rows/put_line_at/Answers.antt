-- `print::rows::put_line_at` meets its contract.
use mathlib.Core.Path.{◌∙◌}
use native.Mathlib.Omega.{arith}
use lib.ListN.{length-set}
use Rattle.print.proofs.Putting.{line-put}
use Rattle.print.proofs.rows.put_line_at.Goals as goal

pub put_words-n-requires : goal.put_words-n-requires
put_words-n-requires c = simp length-set (omega arith)

pub bounds-out-n : goal.bounds-out-n
bounds-out-n c =
    let k = c.put_words-n.auto.out ∙ length-set c.args.out.now c.args.at c.args.letter in
    omega (arith, k, c.put_words-n.ensures.value.1, c.requires)

pub shape_of-out : goal.shape_of-out
shape_of-out c =
    length-set c.put_words-n.new.out c.put_words-n.result c.args.last
    ∙ c.put_words-n.auto.out
    ∙ length-set c.args.out.now c.args.at c.args.letter

pub returns : goal.returns
returns c =
    let each = line-put _ _ _ _ _ _ _ c.put_words-n.ensures.value c.put_words-n.ensures.out_after in
    record { value = each.0; out_after = each.1 }
