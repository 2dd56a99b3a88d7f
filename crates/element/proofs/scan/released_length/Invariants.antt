-- `element::scan::released_length` meets its contract. The loop's invariant: the end seen from here is the end of the component. Assumes nothing.
use mathlib.Core.Path.{◌≡◌}
use lib.ListN.{length}
use Rattle.element.specs.Elements.{component}
use Rattle.element.proofs.scan.Scanning.{end_from}
use Rattle.element.proofs.scan.released_length.Given as goal

abbrev pub invariant-loop-i : goal.invariant-loop-i
invariant-loop-i l = end_from l.y l.bytes (length l.bytes) l.released l.i ≡ length (component l.y l.bytes 0 0)
