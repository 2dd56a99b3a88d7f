-- `verdict::segment::misplaced` meets its contract: one law for each return.
use mathlib.Core.Path.{refl}
use Rattle.guide.proofs.Reasons.{number-some}
use Rattle.verdict.proofs.segment.Answering.{misplaced_nothing, misplaced_bytes, misplaced_place}
use Rattle.verdict.proofs.segment.misplaced.Goals as goal

pub returns-in_default : goal.returns-in_default
returns-in_default c ed = misplaced_nothing ed _ _ _ _ _ _ c.cut_at.ensures c.in_default.is

pub returns-in-Err : goal.returns-in-Err
returns-in-Err c ed = misplaced_bytes ed _ _ _ _ _ _ c.cut_at.ensures _ c.in-Some.is _ c.in-Err.ensures (number-some _)

pub returns : goal.returns
returns c ed = misplaced_place ed _ _ _ _ _ _ c.cut_at.ensures _ c.in-Some.is _ c.in_default-bytes_fault.ensures refl
