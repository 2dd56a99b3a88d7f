-- What each public call answers, for every delivery, place and number, in document 01's order of refusals: 1, 2, 31, 30, 32.
use Rattle.std.specs.Prelude.{ℕ, zero, suc, cond, List, [], ◌∷◌, ◌++◌, eqb, ltb, ℤ, length, drop, Result, Ok, Err}
use Rattle.std.specs.Borrow.{Bor}
use Rattle.cut.specs.declared.service.Syntax.{Syntax}
use Rattle.cut.specs.Admission.{admission_of}
use Rattle.messages.specs.Messages.{Message, start_of, messages, outside}
use Rattle.element.specs.declared.components.Span.{Span}
use Rattle.guide.specs.Accepted.{segments_of}
use Rattle.guide.specs.Choices.{pickℕ}
use Rattle.guide.specs.Answers.{Verdict, accepts, refuses}
use Rattle.verdict.specs.Verdicts.{named_of}
use Rattle.price.specs.Calls.{filled_of, row_after, first_article, IsPart}
use Rattle.price.specs.Listing.{prices_of}
use Rattle.price.specs.Numbers.{Listed}
use Rattle.price.specs.declared.filling.Filled.{Filled}
use Rattle.schaumtruhe.specs.declared.surveys.Survey.{Survey}

-- the message among some that begins at a place, if one does
unfoldable pub beginning_at : ℕ → List Message → List Message
beginning_at at [] = []
beginning_at at (m ∷ ms) = cond (eqb at (start_of m)) (m ∷ []) (beginning_at at ms)

-- "1, 2 and 30 to 32 give 0 for the last three"
abbrev pub nowhere : ℕ → Verdict
nowhere n = refuses n 0 0 0

-- "the whole delivery" is refused with this number, or else the verdict
abbrev pub unless_refused : ℕ → Verdict → Verdict
unless_refused zero v = v
unless_refused (suc n) v = nowhere (suc n)

-- the accepted message that begins at a place, or the number of the refusal
pub data Sheet : Type 0 where
  stands : Message → Sheet
  missing : ℕ → Sheet

abbrev pub only_accepted : Verdict → Message → List Message
only_accepted (accepts n e) m = m ∷ []
only_accepted (refuses k i p n) m = []

abbrev pub survey_unless : ℕ → Survey → Result Survey ℕ
survey_unless zero s = Ok s
survey_unless (suc n) s = Err (suc n)

-- 30, "prices or article asked of a refused message"
abbrev pub sheet_by : Verdict → Message → Sheet
sheet_by (accepts n e) m = stands m
sheet_by (refuses k i p n) m = missing 30

abbrev pub sheet_unless : ℕ → Sheet → Sheet
sheet_unless zero s = s
sheet_unless (suc n) s = missing (suc n)

abbrev pub at_start : Span
at_start = record { start = 0; end = 0 }

abbrev pub article_unless : ℕ → Span → Span
article_unless zero s = s
article_unless (suc n) s = at_start

module _ (y : Syntax) where
  -- the verdict of a message, by "the guide named in UNH"
  abbrev pub judged : Message → Verdict
  judged m = named_of y m

  -- 31, "no message begins at the place asked"
  abbrev pub verdict_in : List Message → Verdict
  verdict_in [] = nowhere 31
  verdict_in (m ∷ ms) = judged m

  -- judge_at
  unfoldable pub verdict_at : List ℕ → ℕ → Verdict
  verdict_at d at = unless_refused (admission_of y d) (verdict_in (beginning_at at (messages y d)))

  -- those of some messages that are accepted
  unfoldable pub accepted : List Message → List Message
  accepted [] = []
  accepted (m ∷ ms) = only_accepted (judged m) m ++ accepted ms

  -- survey: "messages found, accepted, and segments outside"
  unfoldable pub survey_of : List ℕ → Result Survey ℕ
  survey_of d =
      survey_unless (admission_of y d)
      (record { messages = length (messages y d); accepted = length (accepted (messages y d)); outside = length (outside y d) })

  abbrev pub sheet_in : List Message → Sheet
  sheet_in [] = missing 31
  sheet_in (m ∷ ms) = sheet_by (judged m) m

  -- "Calls about prices: 1, 2, 31, 30"
  unfoldable pub sheet_at : List ℕ → ℕ → Sheet
  sheet_at d at = sheet_unless (admission_of y d) (sheet_in (beginning_at at (messages y d)))

  -- the prices of a message
  abbrev pub listed : Message → List Listed
  listed m = prices_of (start_of m) (segments_of m)

  abbrev pub priced_by : Sheet → ℕ → List ℤ → Result Filled ℕ
  priced_by (stands m) k row = Ok (filled_of y (start_of m) k (listed m) row)
  priced_by (missing n) k row = Err n

  abbrev pub row_by : Sheet → ℕ → List ℤ → List ℤ
  row_by (stands m) k row = row_after y (start_of m) k (listed m) row
  row_by (missing n) k row = row

  -- prices: the answer, and the whole row afterwards; a refusal "writes nothing into lent memory"
  unfoldable pub priced_at : List ℕ → ℕ → ℕ → List ℤ → Result Filled ℕ
  priced_at d at k row = priced_by (sheet_at d at) k row

  unfoldable pub row_at : List ℕ → ℕ → ℕ → List ℤ → List ℤ
  row_at d at k row = row_by (sheet_at d at) k row

  -- 32, "article asked for a price number the message does not have"
  abbrev pub article_refusal_by : Sheet → ℕ → ℕ
  article_refusal_by (stands m) k = pickℕ (ltb k (length (listed m))) 0 32
  article_refusal_by (missing n) k = n

  -- article_refusal
  unfoldable pub article_refusal : List ℕ → ℕ → ℕ → ℕ
  article_refusal d at k = article_refusal_by (sheet_at d at) k

  abbrev pub article_by : Sheet → ℕ → Span
  article_by (stands m) k = first_article y (start_of m) (drop k (listed m))
  article_by (missing n) k = at_start

  -- article_at: "an absent one is the empty part at the message's start, a refused call gives the empty part at the delivery's start"
  unfoldable pub article_at : List ℕ → ℕ → ℕ → Span
  article_at d at k = article_unless (article_refusal d at k) (article_by (sheet_at d at) k)

-- article: "as that part of the delivery itself"
abbrev pub IsSpan : Bor (List ℕ) → Bor (List ℕ) → Span → Type 0
IsSpan d r s = IsPart d r s.start s.end

-- document 01's numbers for each case; a refusal has 0 in place of the counts
unfoldable pub priced_numbers : Result Filled ℕ → List ℕ
priced_numbers (Ok f) = 0 ∷ f.written ∷ f.total ∷ []
priced_numbers (Err n) = n ∷ 0 ∷ 0 ∷ []

unfoldable pub survey_numbers : Result Survey ℕ → List ℕ
survey_numbers (Ok s) = 0 ∷ s.messages ∷ s.accepted ∷ s.outside ∷ []
survey_numbers (Err n) = n ∷ 0 ∷ 0 ∷ 0 ∷ []
