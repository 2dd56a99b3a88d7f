-- `judge::sets::children` meets its contract: the upper half of the word. Assumes nothing.
use Rattle.judge.specs.workers.Sets.{preceding_of, children_of, entry_word}
use Rattle.judge.proofs.sets.Members.{upper_half}
use Rattle.judge.proofs.sets.children.Goals as goal

pub returns : goal.returns
unfolding entry_word preceding_of children_of
returns c = upper_half c.args.edition _ _ _ c.entry.ensures
