-- `bytewise::eights::eight_from` meets its contract: the sum is the number of the eight bytes.
use native.Mathlib.Omega.{arith}
use Rattle.bytewise.proofs.Bytewise.{eight_long}
use Rattle.bytewise.proofs.eights.eight_from.Goals as goal

pub returns : goal.returns
returns c = omega (arith, eight_long c.args.d.now c.args.at (omega arith))
