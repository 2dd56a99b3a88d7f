-- `flags` of `clean::clean::Forbidden` meets its contract, by the law of each byte apart.
use native.Mathlib.Omega.{arith}
use Rattle.bytewise.proofs.Bytewise.{eight-word}
use Rattle.clean.proofs.Laws.{forbidden-flags}
use Rattle.clean.proofs.clean.ForbiddenByteTest.flags.Goals as goal

pub returns : goal.returns
returns c = forbidden-flags c.args.w _ (eight-word c.args.w (omega arith))
