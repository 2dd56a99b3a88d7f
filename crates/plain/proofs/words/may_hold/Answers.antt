-- `plain::words::may_hold` meets its contract, by the law of each byte apart.
use Rattle.std.proofs.Common.{arith, eqb-true}
use borrow.Author.Tests.{not-false}
use Rattle.bytewise.proofs.Bytewise.{none_alike}
use Rattle.plain.proofs.words.may_hold.Goals as goal

pub returns : goal.returns
returns c t =
    let a = c.args in
    none_alike a.w a.x c.wrapping_sub_u64.result (omega arith) (omega arith) (omega arith) (rw c.from.ensures at c.wrapping_sub_u64.ensures.value)
    (eqb-true _ _ (not-false _ t))
