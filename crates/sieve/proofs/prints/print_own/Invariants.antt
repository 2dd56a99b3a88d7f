-- `sieve::prints::print_own` meets its contract. The loop's invariant: the print of what is left, after that of what is passed, is the whole one.
use mathlib.Core.Bool.{false}
use mathlib.Core.Path.{◌≡◌}
use Rattle.sieve.proofs.prints.Printing.{printing}
use Rattle.sieve.proofs.prints.print_own.Given as goal

abbrev pub invariant-loop-i : goal.invariant-loop-i
invariant-loop-i l =
    printing l.y l.bytes l.skip l.element l.component l.from false l.before ≡ printing l.y l.bytes l.skip l.element l.component l.i l.released l.print
