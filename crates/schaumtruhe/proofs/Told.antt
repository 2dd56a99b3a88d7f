-- An answer of judge_at is known by the verdict that it tells, and one of survey, prices and article_refusal by its number: no two refusals have the same.
use mathlib.Core.Path.{◌≡◌, refl, sym, ◌∙◌, ap}
use Rattle.std.specs.Prelude.{ℕ, cond, eqb, ltb, Result, Ok, Err, ⊤}
use Rattle.cut.specs.declared.admit.Inadmissible.{Inadmissible}
use Rattle.cut.specs.declared.admit.Inadmissible.TheVariants.{TooLong, Characters}
use Rattle.cut.specs.Admission.{number_of as inadmissible_number}
use Rattle.guide.specs.Answers.{Verdict, accepts, refuses}
use Rattle.guide.specs.Reasons.{number_of_reason}
use Rattle.guide.specs.declared.reason.Reason.{Reason}
use Rattle.guide.specs.declared.reason.Reason.TheVariants.{
  ByteNotAllowed,
  NoTag,
  Unterminated,
  NoNode,
  NodeMissing,
  OverLimit,
  SecondOfPair,
  ComponentMissing,
  NotUsed,
  WrongFormat,
  WrongCode,
  WrongEnd,
  WrongLine,
  Repeated,
  NoEnd,
}
use Rattle.verdict.specs.declared.answers.Accepted.{Accepted}
use Rattle.schaumtruhe.specs.declared.refusal.Refusal.{Refusal}
use Rattle.schaumtruhe.specs.declared.refusal.Refusal.TheVariants.{Delivery, NoMessage, Refused, NoPrice}
use Rattle.schaumtruhe.specs.declared.unaccepted.Unaccepted.{Unaccepted}
use Rattle.schaumtruhe.specs.declared.unaccepted.Unaccepted.TheVariants.{Call, Message}
use Rattle.schaumtruhe.specs.Refusals.{number_of, numbered, refusal_number, refusal_told, told}

-- the reason that has the number k
abbrev reason_with : ℕ → Reason
reason_with k =
    cond (eqb k 10) ByteNotAllowed
    (cond (eqb k 11) NoTag
    (cond (eqb k 12) Unterminated
    (cond (eqb k 13) NoNode
    (cond (eqb k 14) NodeMissing
    (cond (eqb k 15) OverLimit
    (cond (eqb k 25) SecondOfPair
    (cond (eqb k 17) ComponentMissing
    (cond (eqb k 18) NotUsed
    (cond (eqb k 19) WrongFormat
    (cond (eqb k 20) WrongCode
    (cond (eqb k 21) WrongEnd
    (cond (eqb k 22) WrongLine
    (cond (eqb k 23) Repeated NoEnd)))))))))))))

-- the refusal of a call that has the number k
abbrev refusal_with : ℕ → Refusal
refusal_with k =
    cond (eqb k 1) (Delivery TooLong)
    (cond (eqb k 2) (Delivery Characters)
    (cond (eqb k 31) NoMessage
    (cond (eqb k 30) Refused NoPrice)))

abbrev unaccepted_with : ℕ → ℕ → ℕ → ℕ → Unaccepted
unaccepted_with k i p n =
    cond (ltb k 10) (Call (refusal_with k))
    (cond (ltb k 30) (Message (record { reason = reason_with k; segment = i; place = p; node = n })) (Call (refusal_with k)))

-- the answer that tells a verdict
abbrev answer_with : Verdict → Result Accepted Unaccepted
answer_with (accepts n e) = Ok (record { segments = n; end = e })
answer_with (refuses k i p n) = Err (unaccepted_with k i p n)

of_delivery : (e : Inadmissible) → unaccepted_with (inadmissible_number e) 0 0 0 ≡ Call (Delivery e)
of_delivery TooLong = refl
of_delivery Characters = refl

of_call : (r : Refusal) → unaccepted_with (number_of r) 0 0 0 ≡ Call r
of_call (Delivery e) = of_delivery e
of_call NoMessage = refl
of_call Refused = refl
of_call NoPrice = refl

of_message
    : (q : Reason) (i p n : ℕ) → unaccepted_with (number_of_reason q) i p n ≡ Message (record { reason = q; segment = i; place = p; node = n })
of_message ByteNotAllowed i p n = refl
of_message NoTag i p n = refl
of_message Unterminated i p n = refl
of_message NoNode i p n = refl
of_message NodeMissing i p n = refl
of_message OverLimit i p n = refl
of_message SecondOfPair i p n = refl
of_message ComponentMissing i p n = refl
of_message NotUsed i p n = refl
of_message WrongFormat i p n = refl
of_message WrongCode i p n = refl
of_message WrongEnd i p n = refl
of_message WrongLine i p n = refl
of_message Repeated i p n = refl
of_message NoEnd i p n = refl

of_refusal : (u : Unaccepted) → answer_with (refusal_told u) ≡ Err u
of_refusal (Call r) = ap Err (of_call r)
of_refusal (Message r) = ap Err (of_message r.reason r.segment r.place r.node)

of_told : (r : Result Accepted Unaccepted) → answer_with (told r) ≡ r
of_told (Ok a) = refl
of_told (Err u) = of_refusal u

pub one_told : (r t : Result Accepted Unaccepted) → told r ≡ told t → r ≡ t
one_told r t h = sym (of_told r) ∙ ap answer_with h ∙ of_told t

-- ---- the answers of survey, prices and article_refusal, by the numbers that they have

-- the refusal of a delivery that has the number k
abbrev inadmissible_with : ℕ → Inadmissible
inadmissible_with k = cond (eqb k 1) TooLong Characters

inadmissible_back : (e : Inadmissible) → inadmissible_with (inadmissible_number e) ≡ e
inadmissible_back TooLong = refl
inadmissible_back Characters = refl

delivery_back : (e : Inadmissible) → refusal_with (inadmissible_number e) ≡ Delivery e
delivery_back TooLong = refl
delivery_back Characters = refl

refusal_back : (r : Refusal) → refusal_with (number_of r) ≡ r
refusal_back (Delivery e) = delivery_back e
refusal_back NoMessage = refl
refusal_back Refused = refl
refusal_back NoPrice = refl

abbrev returned : {T E : Type 0} → (ℕ → E) → Result T ℕ → Result T E
returned back (Ok a) = Ok a
returned back (Err n) = Err (back n)

returned_numbered
    : {T E : Type 0} (number : E → ℕ) (back : ℕ → E) → ((e : E) → back (number e) ≡ e) → (r : Result T E)
    → returned back (numbered number r) ≡ r
returned_numbered number back f (Ok a) = refl
returned_numbered number back f (Err e) = ap Err (f e)

one_numbered
    : {T E : Type 0} (number : E → ℕ) (back : ℕ → E) → ((e : E) → back (number e) ≡ e) → (r t : Result T E)
    → numbered number r ≡ numbered number t → r ≡ t
one_numbered number back f r t h = sym (returned_numbered number back f r) ∙ ap (returned back) h ∙ returned_numbered number back f t

pub one_surveyed : {T : Type 0} (r t : Result T Inadmissible) → numbered inadmissible_number r ≡ numbered inadmissible_number t → r ≡ t
one_surveyed r t h = one_numbered inadmissible_number inadmissible_with inadmissible_back r t h

pub one_refused : {T : Type 0} (r t : Result T Refusal) → numbered number_of r ≡ numbered number_of t → r ≡ t
one_refused r t h = one_numbered number_of refusal_with refusal_back r t h

-- the answer of article_refusal that has the number k
abbrev asked_with : ℕ → Result ⊤ Refusal
asked_with k = cond (eqb k 0) (Ok tt) (Err (refusal_with k))

asked_delivery : (e : Inadmissible) → asked_with (inadmissible_number e) ≡ Err (Delivery e)
asked_delivery TooLong = refl
asked_delivery Characters = refl

asked_call : (r : Refusal) → asked_with (number_of r) ≡ Err r
asked_call (Delivery e) = asked_delivery e
asked_call NoMessage = refl
asked_call Refused = refl
asked_call NoPrice = refl

asked_back : (r : Result ⊤ Refusal) → asked_with (refusal_number r) ≡ r
asked_back (Ok a) = refl
asked_back (Err e) = asked_call e

pub one_asked : (r t : Result ⊤ Refusal) → refusal_number r ≡ refusal_number t → r ≡ t
one_asked r t h = sym (asked_back r) ∙ ap asked_with h ∙ asked_back t
