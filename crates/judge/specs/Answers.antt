-- What placing a segment answers, and the counts that it leaves.
use Rattle.std.specs.Prelude.{ℕ, List, Result, Ok, Err}
use Rattle.bytewise.specs.Bytes.{part}
use Rattle.cut.specs.declared.service.Syntax.{Syntax}
use Rattle.guide.specs.Answers.{Answer, placed, refused}
use Rattle.guide.specs.Editions.{guide_of}
use Rattle.guide.specs.Reasons.{number_of_reason}
use Rattle.guide.specs.Views.{view_of}
use Rattle.guide.specs.declared.edition.Edition.{Edition}
use Rattle.guide.specs.workers.Placing.{place, counts_after}
use Rattle.judge.specs.declared.placing.Misplaced.{Misplaced}

-- the answer that a Result gives
abbrev pub answer_of : Result ℕ Misplaced → Answer
answer_of (Ok n) = placed n
answer_of (Err m) = refused (number_of_reason m.reason) m.node

module _ (y : Syntax) (ed : Edition) (d : List ℕ) (start end last : ℕ) (cs : List ℕ) where
  -- what comes of the bytes from start to end after the node `last`, where cs are the counts
  abbrev pub placed_in : Answer
  placed_in = place (guide_of ed) (view_of y (part start end d)) last cs

  -- the counts afterwards
  abbrev pub counts_in : List ℕ
  counts_in = counts_after (guide_of ed) placed_in cs
