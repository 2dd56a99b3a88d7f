-- `messages::tags::tag_at` meets its contract.
use Rattle.bytewise.specs.Bytes.{part}
use Rattle.messages.proofs.walks.Tagging.{tag-ahead}
use Rattle.messages.proofs.tags.tag_at.Goals as goal

pub returns : goal.returns
unfolding part
returns c = tag-ahead _ c.if-d-eq85.false c.if-d-eq78.false _ _ _ c.of.ensures
