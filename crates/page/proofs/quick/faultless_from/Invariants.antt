-- `page::quick::faultless_from` meets its contract. The loop's invariant: the bytes before the component that comes next are passed, and against each page
-- the pass stands before the spot of the state.
use Prim.Native.Nat.{◌-◌, ◌%◌}
use lib.ListN.{length}
use Rattle.page.specs.workers.Quick.{Begun}
use Rattle.page.proofs.quick.Loop.{Walked, OnPages}
use Rattle.page.proofs.quick.faultless_from.Given as goal

abbrev pub invariant-loop-p : goal.invariant-loop-p
invariant-loop-p l =
    Begun l.d.syntax l.d.bytes.now l.start × Walked l.d.syntax l.d.bytes.now l.start l.scan.at l.scan.next l.scan.left
    × OnPages l.d.syntax l.d.bytes.now l.start (l.first % 0x1_0000_0000) l.places l.scan.at l.s

abbrev pub decreases-loop-p : goal.decreases-loop-p
decreases-loop-p l = length l.d.bytes.now - l.scan.at
