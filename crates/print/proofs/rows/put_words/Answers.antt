-- `print::rows::put_words` meets its contract. The loop's invariant: `Putting`.
use mathlib.Core.Path.{refl, ◌∙◌}
use native.Mathlib.Omega.{arith}
use Rattle.print.proofs.Putting.{putting_first, word_on, words_last}
use Rattle.print.proofs.rows.put_words.Goals as goal

pub loop-n-init : goal.loop-n-init
loop-n-init c = (putting_first _ _ _, omega arith, refl)

pub put_count-place-requires : goal.put_count-place-requires
put_count-place-requires c =
    let inv = c.loop-n.invariant in
    omega (arith, inv.1, inv.2, c.requires)

pub loop-n-preserved : goal.loop-n-preserved
loop-n-preserved c =
    let inv = c.loop-n.invariant in
    let put = c.put_count-place in (
      word_on _ _ _ _ _ _ inv.0 c.loop-n-test.true _ _ put.ensures.value.0 put.ensures.out_after,
      omega (arith, inv.1, put.ensures.value.1),
      put.auto.out ∙ inv.2,
    )

pub shape_of-out : goal.shape_of-out
shape_of-out c = c.loop-n.invariant.2

pub returns : goal.returns
returns c =
    let inv = c.loop-n.invariant in
    let each = words_last _ _ _ _ _ _ inv.0 c.loop-n-test.false _ _ inv.1 c.loop-n.auto.n-index-end refl in
    record { value = each.0; out_after = each.1 }
