-- `envelope::parts::same_reference` meets its contract.
use mathlib.Core.Path.{◌∙◌}
use Rattle.envelope.proofs.rows.Texts.{same-found}
use Rattle.envelope.proofs.parts.same_reference.Goals as goal

pub returns : goal.returns
returns c =
    c.same_plain.ensures ∙ same-found _ _ _ _ _ _ _ _ c.component_at-r.ensures c.component_at-s.ensures
