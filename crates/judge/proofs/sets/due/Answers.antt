-- `judge::sets::due` meets its contract: the upper half of the word. Assumes nothing.
use Rattle.judge.specs.workers.Sets.{followers_of, due_after, after_word}
use Rattle.judge.proofs.sets.Members.{upper_half}
use Rattle.judge.proofs.sets.due.Goals as goal

pub returns : goal.returns
unfolding after_word followers_of due_after
returns c = upper_half c.args.edition _ _ _ c.after.ensures
