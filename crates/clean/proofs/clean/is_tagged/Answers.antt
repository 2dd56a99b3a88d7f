-- `clean::clean::is_tagged` meets its contract: fewer than four bytes are no tag, and of four each is a letter or the tag ends there.
use mathlib.Core.Path.{◌∙◌}
use native.Mathlib.Omega.{arith}
use Rattle.clean.proofs.Laws.{capital_is, capital_low, capital_high, untagged-short, tagged_four, untagged_first, untagged_second, untagged_third}
use Rattle.clean.proofs.clean.is_tagged.Goals as goal

pub returns-in-65-to-90 : goal.returns-in-65-to-90
returns-in-65-to-90 c =
    c.ends_tag.ensures ∙ tagged_four _ _ c.in-65-to-90.len_at_least (capital_is _ (omega arith) (omega arith)) (capital_is _ (omega arith) (omega arith))
    (capital_is _ (omega arith) (omega arith))

pub returns-in_default : goal.returns-in_default
returns-in_default c = untagged-short _ _ c.in_default.len_below

pub returns-in_default-2 : goal.returns-in_default-2
returns-in_default-2 c = untagged_first _ _ c.in_default.len_at_least (capital_low _ (omega arith))

pub returns-in_default-3 : goal.returns-in_default-3
returns-in_default-3 c = untagged_second _ _ c.in_default.len_at_least (capital_low _ (omega arith))

pub returns-in_default-4 : goal.returns-in_default-4
returns-in_default-4 c = untagged_third _ _ c.in_default.len_at_least (capital_low _ (omega arith))

pub returns-in_default-5 : goal.returns-in_default-5
returns-in_default-5 c = untagged_third _ _ c.in_default.len_at_least (capital_high _ (omega arith))

pub returns-in_default-6 : goal.returns-in_default-6
returns-in_default-6 c = untagged_second _ _ c.in_default.len_at_least (capital_high _ (omega arith))

pub returns-in_default-7 : goal.returns-in_default-7
returns-in_default-7 c = untagged_first _ _ c.in_default.len_at_least (capital_high _ (omega arith))
