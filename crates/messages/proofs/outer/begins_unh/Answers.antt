-- `messages::outer::begins_unh` meets its contract.
use mathlib.Core.Path.{sym, ◌∙◌, ap}
use Rattle.bytewise.specs.Bytes.{part}
use Rattle.messages.specs.workers.Walks.{is_unh}
use Rattle.messages.proofs.walks.Tagging.{tag-ahead}
use Rattle.messages.proofs.outer.begins_unh.Goals as goal

pub returns : goal.returns
unfolding part
returns c h =
    ap is_unh (sym (tag-ahead _ c.if-d-eq85.false c.if-d-eq78.false _ _ _ c.of.ensures)) ∙ sym c.begins_message.ensures ∙ h
