-- `judge::words::key_number` meets its contract: the word that eight bytes tell, or that of the component's place. Assumes nothing.
use Rattle.judge.proofs.words.Packing.{key-word}
use Rattle.judge.proofs.words.key_number.Goals as goal

pub front_key-key-requires : goal.front_key-key-requires
front_key-key-requires c = c.requires

pub returns-then-key-ne0 : goal.returns-then-key-ne0
returns-then-key-ne0 c = c.front_key-key.ensures c.if-key-ne0.true

pub returns : goal.returns
returns c = key-word _ _ _ _ _ _ _ c.component_at-span.ensures _ c.word_of.ensures
