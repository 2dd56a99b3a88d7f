-- `verdict::edition::edition_at` meets its contract.
use mathlib.Core.Path.{◌∙◌}
use Rattle.verdict.proofs.segment.Texts.{decoded-text}
use Rattle.verdict.proofs.edition.Naming.{names_c, names_d, edition_cut}
use Rattle.verdict.proofs.edition.edition_at.Goals as goal

pub returns-then-is_code : goal.returns-then-is_code
returns-then-is_code c =
    names_c _ _ _ (decoded-text _ _ _ _ _ _ _ c.component_at-s.ensures) _ c.is_code.ensures c.if-is_code.true
    ∙ edition_cut _ _ _ _ c.past_breaks.ensures

pub returns-else-is_code : goal.returns-else-is_code
returns-else-is_code c =
    names_d _ _ _ (decoded-text _ _ _ _ _ _ _ c.component_at-s.ensures) _ c.is_code.ensures c.if-is_code.false
    ∙ edition_cut _ _ _ _ c.past_breaks.ensures
