-- `judge::words::pack` meets its contract: one return for each number of bytes. Assumes nothing.
use native.Mathlib.Omega.{arith}
use Rattle.judge.proofs.words.Packing.{word_none, word_one, word_two, word_three}
use Rattle.judge.proofs.words.pack.Goals as goal

pub returns-in-empty : goal.returns-in-empty
returns-in-empty c = word_none _ (omega (arith, c.in-empty.len_below))

pub returns-in-len1 : goal.returns-in-len1
returns-in-len1 c =
    let n = c.in-len1 in
    omega (arith, c.from_le_bytes.ensures, word_one c.args.bytes.now (omega (arith, n.len_at_least, n.len_below)))

pub returns-in-len2 : goal.returns-in-len2
returns-in-len2 c =
    let n = c.in-len2 in
    omega (arith, c.from_le_bytes-in-len2.ensures, word_two c.args.bytes.now (omega (arith, n.len_at_least, n.len_below)))

pub returns-in-len3-up : goal.returns-in-len3-up
returns-in-len3-up c = omega (arith, c.from_le_bytes-in-len3-up.ensures, word_three c.args.bytes.now c.in-len3-up.len_at_least)
