-- `messages::head::head_at` meets its contract.
use mathlib.Core.Path.{sym, ◌∙◌}
use Rattle.messages.proofs.walks.Heads.{head-past, head-not, head-here}
use Rattle.messages.proofs.head.head_at.Goals as goal

pub returns-then-d-place : goal.returns-then-d-place
returns-then-d-place c = head-past _ _ _ _ _ c.past_breaks-place.ensures c.if-d-place.true

pub returns-then-not-is_inside : goal.returns-then-not-is_inside
returns-then-not-is_inside c =
    head-not _ _ _ _ _ c.past_breaks-place.ensures _ c.tag_at-tag.ensures
    (sym c.is_inside.ensures ∙ c.if-not-is_inside.true)

pub returns : goal.returns
returns c =
    head-here _ _ _ _ _ c.past_breaks-place.ensures c.if-d-place.false _ c.tag_at-tag.ensures
    (sym c.is_inside.ensures ∙ c.if-not-is_inside.false) _ c.ends_message-last.ensures
