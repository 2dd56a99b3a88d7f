-- `messages::found::message_at` meets its contract.
use mathlib.Core.Path.{sym, ◌∙◌}
use Rattle.messages.proofs.walks.Spots.{spotted}
use Rattle.messages.proofs.Finding.{at-nowhere, at_none, at_here, at_other}
use Rattle.messages.proofs.found.message_at.Goals as goal

pub returns-then-not-begins_segment : goal.returns-then-not-begins_segment
returns-then-not-begins_segment c = sym (at-nowhere _ _ _ (sym c.begins_segment.ensures ∙ c.if-not-begins_segment.true))

pub returns-in_err-start : goal.returns-in_err-start
returns-in_err-start c =
    c.from_residual.ensures
    ∙ sym
    (at_none _ _ _
    (sym c.begins_segment.ensures ∙ c.if-not-begins_segment.false)
    (sym c.spot_at.ensures ∙ c.in_err-start.was))

pub returns-then-not-begins_message : goal.returns-then-not-begins_message
returns-then-not-begins_message c =
    let q = spotted _ _ _ _ _ _ (sym c.spot_at.ensures ∙ c.in_ok-start.was) in
    sym
    (at_other _ _ _ _ _ _
    (sym c.begins_segment.ensures
    ∙ c.if-not-begins_segment.false)
    q (sym c.begins_message.ensures ∙ c.if-not-begins_message.true))

pub returns : goal.returns
returns c =
    let q = spotted _ _ _ _ _ _ (sym c.spot_at.ensures ∙ c.in_ok-start.was) in
    sym
    (at_here _ _ _ _ _ _
    (sym c.begins_segment.ensures
    ∙ c.if-not-begins_segment.false)
    q _ (sym c.begins_message.ensures ∙ c.if-not-begins_message.false) c.message_end.ensures)
