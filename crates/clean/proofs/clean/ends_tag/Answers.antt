-- `clean::clean::ends_tag` meets its contract: each return by the test that led there.
use mathlib.Core.Path.{◌∙◌}
use borrow.Author.Tests.{eq-eqb}
use Rattle.clean.proofs.Laws.{ends-element, ends-other}
use Rattle.clean.proofs.clean.ends_tag.Goals as goal

pub returns-then-x-y : goal.returns-then-x-y
returns-then-x-y c = eq-eqb _ _ c.if-x-y.true ∙ ends-element _ _ c.if-x-y.true

pub returns-else-x-y : goal.returns-else-x-y
returns-else-x-y c = ends-other c.args.y _ c.if-x-y.false
