-- `judge::sets::followers` meets its contract: the lower half of the word. Assumes nothing.
use Rattle.judge.specs.workers.Sets.{followers_of, due_after, after_word}
use Rattle.judge.proofs.sets.Members.{lower_half}
use Rattle.judge.proofs.sets.followers.Goals as goal

pub returns : goal.returns
unfolding after_word followers_of due_after
returns c = lower_half c.args.edition _ _ _ c.after.ensures
