-- `value::counts::count_of` meets its contract: each answer is a law of `Counting` at the run that was read.
use mathlib.Core.Logic.{inl, inr}
use mathlib.Core.Path.{refl, sym, ap, ◌∙◌}
use native.Mathlib.Omega.{arith}
use lib.ListN.{length}
use Rattle.plain.proofs.Decoding.{count-within}
use Rattle.value.proofs.Counting.{no_count, count-other, count_long, count-padded, count-one, count-is, run-of}
use Rattle.value.proofs.counts.count_of.Goals as goal

pub returns-in_err-first : goal.returns-in_err-first
returns-in_err-first c = c.from_residual.ensures ∙ no_count _ (sym c.of.ensures ∙ c.in_err-first.ensures.steps.0)

pub digits-run-requires-clause-room : goal.digits-run-requires-clause-room
digits-run-requires-clause-room c =
    let a = c.args in
    omega (arith, count-within a.d.syntax a.d.bytes.now a.a a.e _ refl, ap length c.of-2.ensures)

pub returns-then-is_some : goal.returns-then-is_some
returns-then-is_some c =
    let q = run-of _ _ _ _ c.of-2.ensures c.digits-run.ensures in
    elim c.then-is_some.either [
      | inl h ↦ count-other _ _ _ q (sym c.is_some.ensures ∙ h)
      | inr h ↦ count_long _ _ _ q (sym c.is_some.ensures ∙ h.0) h.1
    ]

pub returns-then-run-ne1 : goal.returns-then-run-ne1
returns-then-run-ne1 c =
    count-padded _ _ _ (run-of _ _ _ _ c.of-2.ensures c.digits-run.ensures) (sym c.is_some.ensures ∙ c.if-is_some.false) _ _
    (sym c.of.ensures ∙ c.in_ok-first.ensures.steps) c.if-run-ne1.true c.if-first-eq48.true

pub returns : goal.returns
returns c =
    let q = run-of _ _ _ _ c.of-2.ensures c.digits-run.ensures in
    let n = sym c.is_some.ensures ∙ c.if-is_some.false in
    let p = sym c.of.ensures ∙ c.in_ok-first.ensures.steps in
    elim c.else-first-eq48.either [
      | inl h ↦ count-one _ _ _ q n _ _ p h.1
      | inr h ↦ count-is _ _ _ q n _ _ p c.if-run-gt15.false h
    ]
