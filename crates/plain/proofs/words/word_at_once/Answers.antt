-- `plain::words::word_at_once` meets its contract: a part that a test refuses is not read so.
use Rattle.std.proofs.Common.{arith, rules}
use Rattle.plain.proofs.AtOnce.{word-at-once}
use Rattle.plain.proofs.words.word_at_once.Goals as goal

pub returns : goal.returns
returns c =
    rw (← c.row-row.ensures)
    (word-at-once _ _ _ (omega arith) _ _ _ (omega arith) (omega arith) (omega arith) (λ k. search rules)
    c.eight_at.ensures _ c.front_word.ensures)
