-- Laws of the numbers of the reasons for a refusal.
use Prim.Native.Nat.{◌<◌}
use native.Mathlib.Omega.{arith}
use mathlib.Core.Path.{◌≡◌, ap}
use Rattle.std.specs.Prelude.{Result, Ok, Err, IsErrAnd}
use Rattle.guide.specs.Reasons.{number_of_reason, numbered}
use Rattle.guide.specs.declared.reason.Reason.{Reason}
use Rattle.guide.specs.declared.reason.Reason.TheVariants.{
  ByteNotAllowed,
  NoTag,
  Unterminated,
  NoNode,
  NodeMissing,
  OverLimit,
  ComponentMissing,
  NotUsed,
  WrongFormat,
  WrongCode,
  WrongEnd,
  WrongLine,
  Repeated,
  NoEnd,
  SecondOfPair,
}

-- none is 0, which stands for no fault
pub number-some : (r : Reason) → 0 < number_of_reason r
number-some ByteNotAllowed = omega arith
number-some NoTag = omega arith
number-some Unterminated = omega arith
number-some NoNode = omega arith
number-some NodeMissing = omega arith
number-some OverLimit = omega arith
number-some SecondOfPair = omega arith
number-some ComponentMissing = omega arith
number-some NotUsed = omega arith
number-some WrongFormat = omega arith
number-some WrongCode = omega arith
number-some WrongEnd = omega arith
number-some WrongLine = omega arith
number-some Repeated = omega arith
number-some NoEnd = omega arith

-- a refusal that is passed on
module _ {A : Type 0} where
  pub numbered-err : (x : Result A Reason) (r : Reason) → IsErrAnd x (λ s. s ≡ r) → numbered x ≡ Err (number_of_reason r)
  numbered-err (Ok v) r h = absurd h
  numbered-err (Err s) r h = ap (λ (s : Reason). Err (number_of_reason s)) h
