-- `cut::scan::cut_from` meets its contract: the answer from the start is the answer for the open segment, seen from the byte that is read next.
use Prim.Native.Nat.{◌-◌, min}
use mathlib.Core.Bool.{false}
use mathlib.Core.Path.{◌≡◌}
use lib.ListN.{length, drop}
use Rattle.cut.specs.Segments.{segments_from}
use Rattle.cut.specs.Calls.{cut_from}
use Rattle.cut.specs.workers.Scanning.{open_cut}
use Rattle.cut.proofs.scan.cut_from.Given as goal

abbrev pub invariant-loop-marks : goal.invariant-loop-marks
invariant-loop-marks l =
    cut_from l.d.syntax l.d.bytes.now l.at l.released
    ≡ open_cut l.at (min l.i (length l.d.bytes.now)) (segments_from l.d.syntax (min l.i (length l.d.bytes.now)) false (drop (min l.i
    (length l.d.bytes.now)) l.d.bytes.now))

abbrev pub decreases-loop-marks : goal.decreases-loop-marks
decreases-loop-marks l = length l.d.bytes.now - l.i
