-- `envelope::parts::counts_messages` meets its contract.
use Rattle.std.proofs.Common.{◌∙◌}
use Rattle.envelope.proofs.rows.Texts.{count-found}
use Rattle.envelope.proofs.parts.counts_messages.Goals as goal

pub returns : goal.returns
returns c = c.eq.ensures ∙ count-found _ _ _ _ _ _ c.component_at-s.ensures _ c.count_of.ensures
