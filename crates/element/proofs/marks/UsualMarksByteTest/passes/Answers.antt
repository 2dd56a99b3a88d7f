-- `UsualMarks::passes` meets its contract: a byte alone is the first of eight.
use native.Mathlib.Omega.{arith}
use Rattle.element.proofs.marks.Marks.{marked_alone}
use Rattle.element.proofs.marks.UsualMarksByteTest.passes.Goals as goal

pub returns : goal.returns
returns c = marked_alone _ _ (omega arith) c.marks_in.ensures
