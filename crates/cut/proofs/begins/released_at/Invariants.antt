-- `cut::begins::released_at` meets its contract: each release character passed turns the answer once.
use mathlib.Core.Bool.{false}
use mathlib.Core.Path.{◌≡◌}
use Rattle.bytewise.specs.Bytes.{part}
use Rattle.cut.specs.Fronts.{after}
use Rattle.cut.proofs.cutting.Released.{turned}
use Rattle.cut.proofs.begins.released_at.Given as goal

abbrev pub invariant-loop-i : goal.invariant-loop-i
invariant-loop-i l = after l.d.syntax false (part l.first l.at l.d.bytes.now) ≡ turned l.released (after l.d.syntax false (part l.first l.i l.d.bytes.now))
