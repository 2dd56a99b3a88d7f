-- `plain::plain::same_plain` meets its contract: two parts that have words are the same exactly if these are.
use Rattle.plain.proofs.Packing.{words_same}
use Rattle.plain.proofs.plain.same_plain.Goals as goal

pub returns : goal.returns
returns c =
    let v = c.in-Some.ensures in
    let w = c.in-Some-word_at_once.ensures in
    words_same _ _ v.0 w.0 _ _ v.2 v.1 w.2 w.1
