-- Whether a delivery is complete: "Judge UNB and UNZ by ISO 9735 syntax version 3". Item 8.
use Rattle.std.specs.Prelude.{ℕ, zero, suc, Bool, false, cond, not, ◌&&◌, ◌||◌, List, [], ◌∷◌, Option, Some, None, Result, Ok, Err, ⊤, length, eqb}
use Rattle.bytewise.specs.Bytes.{begins}
use Rattle.cut.specs.declared.service.Syntax.{Syntax}
use Rattle.cut.specs.Segments.{Segment}
use Rattle.cut.specs.Admission.{admission_of, number_of, segments}
use Rattle.messages.specs.Messages.{messages, others, outside}
use Rattle.plain.specs.Plain.{same}
use Rattle.value.specs.Digits.{count_of}
use Rattle.value.specs.Numeral.{none}
use Rattle.envelope.specs.declared.judging.Reason.{Reason}
use Rattle.envelope.specs.declared.judging.Reason.TheVariants.{Delivery, NoUnb, NoUnz, OtherReference, OtherCount, Stray, Lacking}
use Rattle.envelope.specs.declared.judging.Incomplete.{Incomplete}
use Rattle.envelope.specs.Required.{UNB, UNZ, Place, at, in_UNB, in_UNZ, text}

-- all is well; or the number and the place of the first refusal
pub data Enveloped : Type 0 where
  Complete : Enveloped
  Refused : ℕ → ℕ → Enveloped

-- the number of a reason: 1 and 2 are those of the whole delivery
abbrev pub reason_number : Reason → ℕ
reason_number (Delivery e) = number_of e
reason_number NoUnb = 50
reason_number NoUnz = 51
reason_number OtherReference = 52
reason_number OtherCount = 53
reason_number Stray = 54
reason_number Lacking = 55

-- an answer, by its number and its place
abbrev pub enveloped : Result ⊤ Incomplete → Enveloped
enveloped (Ok u) = Complete
enveloped (Err e) = Refused (reason_number e.reason) e.place

-- a segment that is neither "a piece" nor one that "does not begin" with the tag
unfoldable pub stands : List ℕ → Segment → Bool
stands tag s = not s.piece && begins tag s.bytes

-- the last of a segment and those after it
unfoldable pub last_of : Segment → List Segment → Segment
last_of s [] = s
last_of s (t ∷ ts) = last_of t ts

abbrev pub is_count_by : Option ℕ → ℕ → Bool
is_count_by (Some v) n = eqb v n
is_count_by None n = false

-- whether the bytes are the count n: "the count has no leading zeros"
unfoldable pub counts : List ℕ → ℕ → Bool
counts s n = is_count_by (count_of s) n

-- 54, at "the first such segment"
abbrev pub or_stray : List Segment → Enveloped → Enveloped
or_stray [] r = r
or_stray (s ∷ ss) r = Refused 54 s.start

abbrev pub unless_refused : ℕ → Enveloped → Enveloped
unless_refused zero r = r
unless_refused (suc n) r = Refused (suc n) 0

module _ (y : Syntax) where
  -- whether one of some required components is missing
  unfoldable pub lacks : Segment → List Place → Bool
  lacks s [] = false
  lacks s (k ∷ ks) = none (text y s k) || lacks s ks

  -- 52 to 55, where f is UNB and l is UNZ, n messages are found and ss are the other segments outside; DE0020 is element 5 of UNB and element 2
  -- of UNZ, DE0036 its element 1
  unfoldable pub paired : Segment → Segment → ℕ → List Segment → Enveloped
  paired f l n ss =
      cond (not (same (text y f (at 5 0)) (text y l (at 2 0)))) (Refused 52 l.start)
      (cond (not (counts (text y l (at 1 0)) n)) (Refused 53 l.start)
      (or_stray ss
      (cond (lacks f in_UNB) (Refused 55 f.start)
      (cond (lacks l in_UNZ) (Refused 55 l.start) Complete))))

  module _ (d : List ℕ) where
    -- "another segment stands outside": those outside that are neither f nor l
    abbrev pub strays : Segment → Segment → List Segment
    strays f l = others (f ∷ l ∷ []) (outside y d)

    -- 51, where the first segment is UNB
    unfoldable pub closed_by : Segment → Segment → Enveloped
    closed_by f l = cond (stands UNZ l) (paired f l (length (messages y d)) (strays f l)) (Refused 51 l.start)

    -- 50
    unfoldable pub opened_by : List Segment → Enveloped
    opened_by [] = Refused 50 (length d)
    opened_by (f ∷ ss) = cond (stands UNB f) (closed_by f (last_of f ss)) (Refused 50 f.start)

    -- "the first in this order, after 1 and 2"
    unfoldable pub envelope_of : Enveloped
    envelope_of = unless_refused (admission_of y d) (opened_by (segments y d))

-- item 8's numbers for each case: "number place", "0 0" when all is well
unfoldable pub envelope_numbers : Enveloped → List ℕ
envelope_numbers Complete = 0 ∷ 0 ∷ []
envelope_numbers (Refused n p) = n ∷ p ∷ []
