-- `envelope::walking::walked` meets its contract. The loop's invariant: `Passing`.
use mathlib.Core.Path.{sym, ◌∙◌}
use native.Mathlib.Omega.{arith}
use borrow.Author.Rules.{rules}
use Rattle.envelope.proofs.walks.Steps.{passing-first, passing-all, passing_step, passing_less, passing_on}
use Rattle.envelope.proofs.walking.walked.Goals as goal

pub loop-segment-init : goal.loop-segment-init
loop-segment-init c = passing-first _ _ _ _ (search rules) (search rules)

pub pass-w-requires : goal.pass-w-requires
pass-w-requires c =
    passing_step _ _ _ _ _ c.loop-segment.invariant _ _ _ (sym c.segment_at.ensures ∙ c.in-Some.is)

pub loop-segment-smaller : goal.loop-segment-smaller
loop-segment-smaller c =
    let p = c.loop-segment.invariant in
    let h = sym c.segment_at.ensures ∙ c.in-Some.is in
    let less = passing_less _ _ _ _ _ p _ _ _ h _ c.pass-w.ensures in
    let next = passing_on _ _ _ _ _ p _ _ _ h _ c.pass-w.ensures in
    let fits = next.fits in
    omega arith

pub loop-segment-preserved : goal.loop-segment-preserved
loop-segment-preserved c =
    passing_on _ _ _ _ _ c.loop-segment.invariant _ _ _ (sym c.segment_at.ensures ∙ c.in-Some.is) _ c.pass-w.ensures

pub returns : goal.returns
returns c = passing-all _ _ _ _ _ c.loop-segment.invariant (sym c.segment_at.ensures ∙ c.in_default.is)
