-- `print::message_lines::between` meets its contract.
use Prim.Native.Nat.{◌-◌}
use mathlib.Core.Path.{◌≡◌}
use mathlib.Core.Bool.{true}
use lib.ListN.{length}
use Rattle.print.specs.Printing.{left_from, sound}
use Rattle.print.proofs.message_lines.between.Given as goal

abbrev pub invariant-loop-d : goal.invariant-loop-d
invariant-loop-d l =
    (l.out ≡ l.initial.out)
    × (left_from l.d.syntax l.d.bytes.now (record { at = l.at; messages = l.c.messages; accepted = l.c.accepted; outside = l.outside })
    ≡ left_from l.d.syntax l.d.bytes.now l.c)
    × (sound (record { at = l.at; messages = l.c.messages; accepted = l.c.accepted; outside = l.outside }) ≡ true)

abbrev pub decreases-loop-d : goal.decreases-loop-d
decreases-loop-d l = length l.d.bytes.now - l.at
