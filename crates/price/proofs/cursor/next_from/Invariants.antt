-- `price::cursor::next_from` meets its contract. The loop's invariant: the next price from here is the one from the start.
use Prim.Native.Nat.{◌-◌, ◌≤◌}
use mathlib.Core.Path.{◌≡◌}
use lib.ListN.{length}
use Rattle.cut.specs.Segments.{segments_at}
use Rattle.price.specs.Cursors.{next_in}
use Rattle.price.proofs.cursor.next_from.Given as goal

abbrev pub invariant-loop-spot : goal.invariant-loop-spot
invariant-loop-spot l = (l.p.number ≤ l.at) × (next_in l.d.syntax l.d.bytes.now l.p (segments_at l.d.syntax l.d.bytes.now l.at)
    ≡ next_in l.d.syntax l.d.bytes.now l.initial.p (segments_at l.d.syntax l.d.bytes.now l.from))

abbrev pub decreases-loop-spot : goal.decreases-loop-spot
decreases-loop-spot l = length l.d.bytes.now - l.at
