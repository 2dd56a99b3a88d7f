-- `sieve::prints::print_segment` meets its contract. The loop's invariant: what is left, printed after what is passed, gives the print.
use Prim.Native.Nat.{◌-◌, ◌≤◌}
use mathlib.Core.Bool.{false}
use mathlib.Core.Path.{◌≡◌}
use lib.ListN.{length}
use Rattle.sieve.specs.workers.Prints.{print_segment}
use Rattle.sieve.proofs.prints.Printing.{printing}
use Rattle.sieve.proofs.prints.print_segment.Given as goal

abbrev pub invariant-loop-element : goal.invariant-loop-element
invariant-loop-element l =
    (l.element ≤ l.i) × (l.component ≤ l.i) × (printing l.y l.bytes l.skip l.element l.component l.i false l.print ≡ print_segment l.y l.skip l.bytes l.before)

abbrev pub decreases-loop-element : goal.decreases-loop-element
decreases-loop-element l = length l.bytes - l.i
