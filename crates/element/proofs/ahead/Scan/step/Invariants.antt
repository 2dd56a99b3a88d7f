-- `element::ahead::Scan::step` meets its contract. The loop's invariant: from where the bytes were tested up to the first
-- word, they are tested up to the word that comes next.
use Prim.Native.Nat.{ℕ, ◌-◌}
use lib.ListN.{length}
use Rattle.element.specs.workers.Scans.{Tested}
use Rattle.element.proofs.ahead.Scan.step.Given as goal

abbrev pub invariant-loop-m : goal.invariant-loop-m
invariant-loop-m g l =
    (a : ℕ) → Tested (g.T.ByteTest.holds l.test) l.d (length l.d) a l.initial.n l.initial.m → Tested (g.T.ByteTest.holds l.test) l.d (length l.d) a l.n l.m

abbrev pub decreases-loop-m : goal.decreases-loop-m
decreases-loop-m g l = length l.d - l.n
