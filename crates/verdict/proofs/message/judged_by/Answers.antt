-- `verdict::message::judged_by` meets its contract.
use Rattle.verdict.proofs.ended.Ends.{once_more}
use Rattle.verdict.proofs.message.judged_by.Goals as goal

pub loop-told-preserved : goal.loop-told-preserved
loop-told-preserved c =
    let a = c.args in
    once_more a.edition a.d.syntax a.d.bytes.now a.start _ _ c.loop-told.close c.loop-told.invariant _ c.walk.ensures.result_value c.walk.ensures.closable
    c.walk.ensures.result_value_2 _ c.in-Ok.is _ c.ended.ensures _ c.in-Agrees.is
