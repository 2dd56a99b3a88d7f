-- The numbers of the reasons for which a message is refused. Document 01, 'Refusal numbers', and request 2's 25.
use Rattle.std.specs.Prelude.{ℕ, Result, Ok, Err}
use Rattle.guide.specs.declared.reason.Reason.{Reason}
use Rattle.guide.specs.declared.reason.Reason.TheVariants.{
  ByteNotAllowed,
  NoTag,
  Unterminated,
  NoNode,
  NodeMissing,
  OverLimit,
  ComponentMissing,
  NotUsed,
  WrongFormat,
  WrongCode,
  WrongEnd,
  WrongLine,
  Repeated,
  NoEnd,
  SecondOfPair,
}

abbrev pub number_of_reason : Reason → ℕ
-- "a byte not allowed", "not three capital letters followed by `+` or `'`", "an unterminated piece"
number_of_reason ByteNotAllowed = 10
number_of_reason NoTag = 11
number_of_reason Unterminated = 12
-- no node takes the segment, a required node is missing, a node comes more often than its limit, "the second DTM of one code"
number_of_reason NoNode = 13
number_of_reason NodeMissing = 14
number_of_reason OverLimit = 15
number_of_reason SecondOfPair = 25
-- a component: "missing", "not used", "wrong format", "code not on its page"
number_of_reason ComponentMissing = 17
number_of_reason NotUsed = 18
number_of_reason WrongFormat = 19
number_of_reason WrongCode = 20
-- "UNT count or reference differs", "LIN number is not the next", a LIN that agrees with an earlier one, "message ends without UNT"
number_of_reason WrongEnd = 21
number_of_reason WrongLine = 22
number_of_reason Repeated = 23
number_of_reason NoEnd = 24

module _ {A : Type 0} where
  -- the number of the fault, or 0 for none
  abbrev pub fault_number : Result A Reason → ℕ
  fault_number (Ok x) = 0
  fault_number (Err r) = number_of_reason r

  -- the same with the number in place of the reason
  abbrev pub numbered : Result A Reason → Result A ℕ
  numbered (Ok x) = Ok x
  numbered (Err r) = Err (number_of_reason r)
