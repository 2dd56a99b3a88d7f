-- `messages::found::message_begins` meets its contract.
use mathlib.Core.Path.{sym, ◌∙◌, ap}
use Rattle.messages.specs.Calls.{is_found}
use Rattle.messages.proofs.walks.Spots.{spotted}
use Rattle.messages.proofs.Finding.{at-nowhere, at_none, at-begins}
use Rattle.messages.proofs.found.message_begins.Goals as goal

pub returns-then-not-begins_segment : goal.returns-then-not-begins_segment
returns-then-not-begins_segment c = sym (ap is_found (at-nowhere _ _ _ (sym c.begins_segment.ensures ∙ c.if-not-begins_segment.true)))

pub returns-in_default : goal.returns-in_default
returns-in_default c =
    sym
    (ap is_found
    (at_none _ _ _
    (sym c.begins_segment.ensures ∙ c.if-not-begins_segment.false)
    (sym c.spot_at.ensures ∙ c.in_default.is)))

pub returns : goal.returns
returns c =
    let q = spotted _ _ _ _ _ _ (sym c.spot_at.ensures ∙ c.in-Some.is) in
    at-begins _ _ _ _ _ _
    (sym c.begins_segment.ensures ∙ c.if-not-begins_segment.false)
    q _ c.begins_message.ensures
