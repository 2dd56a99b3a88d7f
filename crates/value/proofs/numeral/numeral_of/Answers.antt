-- `value::numeral::numeral_of` meets its contract: by the first byte.
use mathlib.Core.Bool.{false}
use mathlib.Core.Path.{refl, sym, ap, ◌∙◌}
use native.Mathlib.Omega.{arith}
use lib.ListN.{length}
use Rattle.plain.proofs.Decoding.{count-within}
use Rattle.value.specs.workers.Scans.{unsigned_of}
use Rattle.value.proofs.Numerals.{no_byte, with-minus, without_minus}
use Rattle.value.proofs.numeral.numeral_of.Goals as goal

pub returns-in_err-next : goal.returns-in_err-next
returns-in_err-next c = c.from_residual.ensures ∙ no_byte _ _ (sym c.of-bytes.ensures ∙ c.in_err-next.ensures.steps.0)

pub unsigned_numeral-requires : goal.unsigned_numeral-requires
unsigned_numeral-requires c =
    let a = c.args in
    omega (arith, count-within a.d.syntax a.d.bytes.now a.a a.e _ refl, ap length c.of-bytes.ensures, ap length c.in_ok-next.ensures.steps)

pub returns-then-branch-eq45 : goal.returns-then-branch-eq45
returns-then-branch-eq45 c =
    with-minus _ _ _ _ (sym c.of-bytes.ensures ∙ c.in_ok-next.ensures.steps) _ c.if-branch-eq45.true c.unsigned_numeral.ensures

pub unsigned_numeral-requires-2 : goal.unsigned_numeral-requires-2
unsigned_numeral-requires-2 c =
    let a = c.args in
    omega (arith, count-within a.d.syntax a.d.bytes.now a.a a.e _ refl, ap length c.of.ensures)

pub returns : goal.returns
returns c =
    without_minus _ _ _ _ (sym c.of-bytes.ensures ∙ c.in_ok-next.ensures.steps) _ c.if-branch-eq45.false
    (c.unsigned_numeral-2.ensures ∙ ap (unsigned_of c.args.d.syntax false) c.of.ensures)
