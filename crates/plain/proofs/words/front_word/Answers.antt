-- `plain::words::front_word` meets its contract: the bytes behind the first n are cut off.
use Rattle.std.proofs.Common.{refl}
use Rattle.plain.proofs.AtOnce.{front-word}
use Rattle.plain.proofs.words.front_word.Goals as goal

pub returns : goal.returns
returns c =
    let a = c.args in
    front-word a.n c.requires _ refl a.y a.w (c.may_hold.ensures c.if-may_hold.false)
