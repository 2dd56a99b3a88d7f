-- `element::components::Span::part` meets its contract: an end past the delivery counts as the delivery's end.
use mathlib.Core.Path.{sym, ◌∙◌}
use Rattle.bytewise.specs.Bytes.{part}
use Rattle.bytewise.proofs.Limits.{limited}
use Rattle.bytewise.proofs.Parts.{part_none}
use Rattle.element.proofs.components.Span.part.Goals as goal

pub returns-then-limit-self : goal.returns-then-limit-self
returns-then-limit-self c = sym (part_none _ _ _ c.if-limit-self.true) ∙ limited _ _ _ _ c.limit_of-limit.ensures

pub returns : goal.returns
unfolding part
returns c = limited _ _ _ _ c.limit_of-limit.ensures
