-- Document 01's number of each refusal, an answer with that number in the refusal's place, and the verdict that judge_at's answer tells.
use Rattle.std.specs.Prelude.{ℕ, Result, Ok, Err}
use Rattle.cut.specs.Admission.{number_of as inadmissible_number}
use Rattle.guide.specs.Answers.{Verdict, accepts, refuses}
use Rattle.guide.specs.Reasons.{number_of_reason}
use Rattle.verdict.specs.declared.answers.Accepted.{Accepted}
use Rattle.schaumtruhe.specs.declared.refusal.Refusal.{Refusal}
use Rattle.schaumtruhe.specs.declared.refusal.Refusal.TheVariants.{Delivery, NoMessage, Refused, NoPrice}
use Rattle.schaumtruhe.specs.declared.unaccepted.Unaccepted.{Unaccepted}
use Rattle.schaumtruhe.specs.declared.unaccepted.Unaccepted.TheVariants.{Call, Message}

-- 1 and 2 for the whole delivery; 31, "no message begins at the place asked"; 30, "prices or article asked of a refused message"; 32, "article
-- asked for a price number the message does not have"
abbrev pub number_of : Refusal → ℕ
number_of (Delivery e) = inadmissible_number e
number_of NoMessage = 31
number_of Refused = 30
number_of NoPrice = 32

-- an answer with document 01's number in the refusal's place
abbrev pub numbered : {T E : Type 0} → (E → ℕ) → Result T E → Result T ℕ
numbered number (Ok a) = Ok a
numbered number (Err e) = Err (number e)

-- document 01's number of a refusal, or 0
abbrev pub refusal_number : {T : Type 0} → Result T Refusal → ℕ
refusal_number (Ok a) = 0
refusal_number (Err e) = number_of e

-- "number, segment, the place of the segment's first byte, node; 1, 2 and 30 to 32 give 0 for the last three"
abbrev pub refusal_told : Unaccepted → Verdict
refusal_told (Call r) = refuses (number_of r) 0 0 0
refusal_told (Message r) = refuses (number_of_reason r.reason) r.segment r.place r.node

-- the verdict that judge_at's answer tells
abbrev pub told : Result Accepted Unaccepted → Verdict
told (Ok a) = accepts a.segments a.end
told (Err u) = refusal_told u
