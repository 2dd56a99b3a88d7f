-- `price::filling::fill_message` meets its contract. The loop's invariant: `Filling`.
use native.Mathlib.Omega.{arith}
use mathlib.Core.Path.{◌∙◌}
use Rattle.price.proofs.kinds.Tags.{is-kind, no-kind}
use Rattle.price.proofs.spots.Steps.{adds_one, adds_none}
use Rattle.price.proofs.filling.Walk.{filling_first, filling_out, filling_within, filling_place, filling_few, filling_next, filling_less, filling_on}
use Rattle.price.proofs.filling.fill_message.Goals as goal
use Rattle.price.proofs.filling.fill_message.Goals.{then-eq, else-eq}

pub loop-here-init : goal.loop-here-init
loop-here-init c = rw c.first-p.ensures (filling_first _ _ _ _ _ c.spot_at-here.ensures)

pub put_found-requires-clause-within : goal.put_found-requires-clause-within
put_found-requires-clause-within c = filling_within _ _ _ _ _ _ _ _ c.loop-here.invariant _ c.in-Some.is

pub put_found-requires-clause-spot_within : goal.put_found-requires-clause-spot_within
put_found-requires-clause-spot_within c = filling_place _ _ _ _ _ _ _ _ c.loop-here.invariant _ c.in-Some.is

pub put_found-requires-clause-next_within : goal.put_found-requires-clause-next_within
put_found-requires-clause-next_within c =
    filling_next _ _ _ _ _ _ _ _ c.loop-here.invariant _ c.in-Some.is _ c.spot_at-here-in-Some.ensures

pub overflow_add-seen : goal.overflow_add-seen
overflow_add-seen c =
    let pri = is-kind _ _ _ c.eq.ensures c.if-eq.true in
    let l = filling_few _ _ _ _ _ _ _ _ c.loop-here.invariant _ c.in-Some.is _ (adds_one _ _ pri) in
    record { fits = omega arith }

pub moved-p-requires : goal.moved-p-requires
moved-p-requires c =
    let w = filling_within _ _ _ _ _ _ _ _ c.loop-here.invariant _ c.in-Some.is in
    omega (arith, w.number)

pub loop-here-smaller : goal.loop-here-smaller
loop-here-smaller c =
    filling_less _ _ _ _ _ _ _ _ c.loop-here.invariant _ c.in-Some.is _ c.spot_at-here-in-Some.ensures

pub loop-here-preserved : goal.loop-here-preserved
loop-here-preserved c =
    let on =
    filling_on _ _ _ _ _ _ _ _ c.loop-here.invariant _ c.in-Some.is _ c.spot_at-here-in-Some.ensures _ c.if-eq.seen _
    c.put_found.ensures c.put_found.auto.row in
    elim c.if-eq.branch [
      | then-eq w ↦ on (w.seen-is ∙ adds_one _ _ (is-kind _ _ _ c.eq.ensures w.if-eq.true)) c.moved-p.ensures
      | else-eq w ↦ on (w.seen-is ∙ adds_none _ _ (no-kind _ _ _ c.eq.ensures w.if-eq.false)) c.moved-p.ensures
    ]

pub returns-clause-value : goal.returns-clause-value
returns-clause-value c =
    (filling_out _ _ _ _ _ _ _ _ c.loop-here.invariant _ c.in_default.is (c.min.ensures ∙ rw c.saturating_sub.ensures)).0

pub returns-clause-row_after : goal.returns-clause-row_after
returns-clause-row_after c =
    (filling_out _ _ _ _ _ _ _ _ c.loop-here.invariant _ c.in_default.is (c.min.ensures ∙ rw c.saturating_sub.ensures)).1
