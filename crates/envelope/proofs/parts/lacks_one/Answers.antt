-- `envelope::parts::lacks_one` meets its contract.
use Rattle.envelope.proofs.rows.Texts.{lacks-found}
use Rattle.envelope.proofs.parts.lacks_one.Goals as goal

pub returns : goal.returns
returns c = lacks-found _ _ _ _ _ _ _ c.component_at-s.ensures _ c.plain_length.ensures
