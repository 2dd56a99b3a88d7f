-- `verdict::segment::segment_answer` meets its contract: one law for each answer, `Answers` with the counts that it leaves.
use Rattle.verdict.proofs.segment.Answering.{place_refused, place-answered}
use Rattle.verdict.proofs.segment.segment_answer.Goals as goal

pub returns-in-Ok : goal.returns-in-Ok
returns-in-Ok c =
    let a = c.args in
    let o =
    place-answered a.edition a.d.syntax a.d.bytes.now a.start a.i a.kept a.counts.now _
    c.place.ensures.counts_after _ c.in-Ok.ensures.value
    _ c.content_answer.ensures in
    record {
      value = o.answer;
      counted_on = o.counts;
    }

pub returns-in-Err : goal.returns-in-Err
returns-in-Err c =
    let a = c.args in
    let o =
    place_refused a.edition a.d.syntax a.d.bytes.now a.start a.i a.kept a.counts.now _
    c.place.ensures.counts_after _ _ c.in-Err.ensures.value
    _ (c.misplaced.ensures a.edition) in
    record {
      value = o.answer;
      counted_on = o.counts;
    }
