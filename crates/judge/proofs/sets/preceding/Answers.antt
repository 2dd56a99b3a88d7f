-- `judge::sets::preceding` meets its contract: the lower half of the word. Assumes nothing.
use Rattle.judge.specs.workers.Sets.{preceding_of, children_of, entry_word}
use Rattle.judge.proofs.sets.Members.{lower_half}
use Rattle.judge.proofs.sets.preceding.Goals as goal

pub returns : goal.returns
unfolding entry_word preceding_of children_of
returns c = lower_half c.args.edition _ _ _ c.entry.ensures
