-- `messages::found::next_from` meets its contract: what is found from the start is found from here.
use mathlib.Core.Path.{sym, ◌∙◌}
use native.Mathlib.Omega.{arith}
use Rattle.messages.proofs.walks.Spots.{spotted, found_none, found_on, found_here}
use Rattle.messages.proofs.found.next_from.Goals as goal

pub returns-in_err-start : goal.returns-in_err-start
returns-in_err-start c = c.from_residual.ensures ∙ sym (c.loop-start.invariant ∙ found_none _ _ _ (sym c.spot_at.ensures ∙ c.in_err-start.was))

pub returns-then-begins_message : goal.returns-then-begins_message
returns-then-begins_message c =
    let q = spotted _ _ _ _ _ _ (sym c.spot_at.ensures ∙ c.in_ok-start.was) in
    sym
    (c.loop-start.invariant
    ∙ found_here _ _ _ _ _ _ q _ (sym c.begins_message.ensures ∙ c.if-begins_message.true) c.message_end.ensures)

pub loop-start-smaller : goal.loop-start-smaller
loop-start-smaller c =
    let q = spotted _ _ _ _ _ _ (sym c.spot_at.ensures ∙ c.in_ok-start.was) in
    omega arith

pub loop-start-preserved : goal.loop-start-preserved
loop-start-preserved c =
    let q = spotted _ _ _ _ _ _ (sym c.spot_at.ensures ∙ c.in_ok-start.was) in
    c.loop-start.invariant ∙ found_on _ _ _ _ _ _ q (sym c.begins_message.ensures ∙ c.if-begins_message.false)
