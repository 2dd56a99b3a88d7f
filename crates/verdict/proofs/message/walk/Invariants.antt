-- `verdict::message::walk` meets its contract. The loop's invariant: `Standing`.
use Prim.Native.Nat.{◌-◌}
use lib.ListN.{length}
use Rattle.verdict.proofs.message.Onward.{Standing}
use Rattle.verdict.proofs.message.walk.Given as goal

abbrev pub invariant-loop-head : goal.invariant-loop-head
invariant-loop-head l = Standing l.edition l.d.syntax l.d.bytes.now l.start l.stop l.counts l.came l.kept l.end l.segments

abbrev pub decreases-loop-head : goal.decreases-loop-head
decreases-loop-head l = length l.d.bytes.now - l.end
