-- `element::ahead::Scan::step` meets its contract. The loop's invariant: from where the bytes were tested up to the first
-- word, they are tested up to the word that comes next.
use native.Mathlib.Omega.{arith}
use Prim.Native.Nat.{◌+◌, ◌≤◌}
use lib.ListN.{length}
use Rattle.bytewise.proofs.Bytewise.{FirstOf, flagged_there, first_of}
use Rattle.element.specs.workers.Scans.{waiting, Tested}
use Rattle.element.proofs.ahead.Flags.{scan_word, scan_flag, sought_flag}
use Rattle.element.proofs.ahead.Scan.step.Goals as goal

pub loop-m-init : goal.loop-m-init
loop-m-init g c = λ a s. s

pub loop-m-preserved : goal.loop-m-preserved
loop-m-preserved g c = λ a s.
    scan_word _ _ _ _ _ _ (c.loop-m.invariant a s) c.loop-m-test.true (omega arith) _
    (flagged_there c.args.d.now c.loop-m.n _ (g.T.ByteTest.holds c.args.test.now) _ (omega arith) (λ k. omega (arith, c.type_inv.d k)) c.eight_at.ensures
    c.flags-m.ensures)

pub returns : goal.returns
returns g c = λ s.
    let tested : Tested (g.T.ByteTest.holds c.args.test.now) c.args.d.now (length c.args.d.now) c.args.self.at c.loop-m.n c.loop-m.m = c.loop-m.invariant _ s in
    let first : FirstOf 8 (waiting (g.T.ByteTest.holds c.args.test.now) c.args.d.now c.args.self.at c.loop-m.n) c.first_of.result =
    first_of _ _ _ tested.flagged c.loop-m-test.false c.first_of.ensures in
    let behind : c.args.self.at + 8 ≤ c.loop-m.n + c.first_of.result = scan_flag _ _ _ _ _ _ tested _ first in
    sought_flag _ _ _ _ _ tested c.loop-m-test.false _ first _ (omega (arith, first.within, tested.within))
