-- `verdict::message::judged_by` meets its contract. The loop's invariant: the first walk goes through, and a second one names 23's node.
use Rattle.verdict.specs.workers.Ends.{judged_at}
use Rattle.verdict.proofs.ended.Ends.{Stops, left_to}
use Rattle.verdict.proofs.message.judged_by.Given as goal

abbrev pub invariant-loop-told : goal.invariant-loop-told
invariant-loop-told l = Stops l.edition l.d.syntax l.d.bytes.now l.start l.stop (judged_at l.edition l.d.syntax l.d.bytes.now l.start) l.close

abbrev pub decreases-loop-told : goal.decreases-loop-told
decreases-loop-told l = left_to l.close
