-- `element::components::component_at` meets its contract: an end past the delivery counts as the delivery's end.
use mathlib.Core.Path.{◌∙◌}
use Rattle.element.proofs.components.Walking.{walk_limited, walk_none}
use Rattle.element.proofs.components.component_at.Goals as goal

pub returns-then-limit-start : goal.returns-then-limit-start
returns-then-limit-start c = walk_none _ _ _ _ _ _ _ c.limit_of-limit.ensures c.if-limit-start.true

pub returns-in-Some : goal.returns-in-Some
returns-in-Some c =
    c.in-Some.ensures ∙ walk_limited _ _ _ _ _ _ _ c.limit_of-limit.ensures

pub returns : goal.returns
returns c = c.each_at.ensures ∙ walk_limited _ _ _ _ _ _ _ c.limit_of-limit.ensures
