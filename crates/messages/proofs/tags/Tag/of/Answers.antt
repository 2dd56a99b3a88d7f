-- `messages::tags::Tag::of` meets its contract, arm by arm.
use native.Mathlib.Omega.{arith}
use Rattle.bytewise.specs.Bytes.{begins}
use Rattle.messages.specs.Messages.{tag_of}
use Rattle.messages.proofs.walks.Tagging.{tag-short, tag_known, tag-not_first, tag-not_second, tag-not_third}
use Rattle.messages.proofs.tags.Tag.of.Goals as goal

pub returns-in-85 : goal.returns-in-85
unfolding tag_of begins
returns-in-85 c = tag_known _ c.in-85.len_at_least 72 (omega arith) (omega arith) (omega arith)

pub returns-in-85-2 : goal.returns-in-85-2
unfolding tag_of begins
returns-in-85-2 c = tag_known _ c.in-85-2.len_at_least 84 (omega arith) (omega arith) (omega arith)

pub returns-in-85-3 : goal.returns-in-85-3
unfolding tag_of begins
returns-in-85-3 c = tag_known _ c.in-85-3.len_at_least 90 (omega arith) (omega arith) (omega arith)

pub returns-in_default : goal.returns-in_default
returns-in_default c = tag-short _ c.in_default.len_below

pub returns-in_default-2 : goal.returns-in_default-2
returns-in_default-2 c = tag-not_third _ c.in_default.len_at_least (λ h. omega arith) (λ h. omega arith) (λ h. omega arith)

pub returns-in_default-3 : goal.returns-in_default-3
returns-in_default-3 c = tag-not_second _ c.in_default.len_at_least (λ h. omega arith)

pub returns-in_default-4 : goal.returns-in_default-4
returns-in_default-4 c = tag-not_first _ c.in_default.len_at_least (λ h. omega arith)
