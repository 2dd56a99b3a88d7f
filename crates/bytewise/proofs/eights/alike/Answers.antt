-- `bytewise::eights::alike` meets its contract, by the law of each byte apart.
use native.Mathlib.Omega.{arith}
use Rattle.bytewise.proofs.Bytewise.{eight-word, alike_fits, alike_flags}
use Rattle.bytewise.proofs.eights.alike.Goals as goal

pub overflow_add-result : goal.overflow_add-result
overflow_add-result c = record { fits = alike_fits c.args.w c.args.x }

pub returns : goal.returns
returns c = alike_flags c.args.w c.args.x _ (omega arith) (eight-word c.args.w (omega arith))
