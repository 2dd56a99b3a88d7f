-- `element::endings::frees_next` meets its contract: a byte that is released releases nothing.
use Rattle.cut.specs.Segments.{frees}
use Rattle.element.proofs.endings.frees_next.Goals as goal

pub returns-else-not-released : goal.returns-else-not-released
unfolding frees
returns-else-not-released c = rw c.if-not-released.false
