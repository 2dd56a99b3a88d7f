-- What the checking program prints of a delivery: the bytes of all its lines, from what the calls answer. Document 01, 'What is handed out'.
use Rattle.std.specs.Prelude.{ℕ, ◌+◌, false, List, [], ◌∷◌, ◌++◌, map, ℤ, pos, Result, Ok, Err}
use Rattle.cut.specs.declared.service.Syntax.{Syntax}
use Rattle.plain.specs.Plain.{plain}
use Rattle.value.specs.Text.{text_of}
use Rattle.envelope.specs.Envelope.{envelope_of, envelope_numbers}
use Rattle.messages.specs.Messages.{Message, start_of, messages}
use Rattle.guide.specs.Answers.{Verdict, accepts, refuses}
use Rattle.verdict.specs.Answers.{numbers_of}
use Rattle.price.specs.Cursors.{Told, told_of}
use Rattle.schaumtruhe.specs.declared.reading.Reading.{Reading}
use Rattle.schaumtruhe.specs.declared.surveys.Survey.{Survey}
use Rattle.schaumtruhe.specs.Readings.{used_in}
use Rattle.schaumtruhe.specs.Calls.{judged, listed, survey_of}

-- a number behind a blank: decimal digits without leading zeros, after `-` if it is below 0
unfoldable pub word : ℤ → List ℕ
word z = 32 ∷ text_of z

unfoldable pub words : List ℕ → List ℕ
words [] = []
words (n ∷ ns) = word (pos n) ++ words ns

-- a line of a letter and numbers
unfoldable pub line_of : ℕ → List ℕ → List ℕ
line_of letter ns = letter ∷ (words ns ++ (10 ∷ []))

-- "article with releases removed, `-` if absent"
unfoldable pub article_text : Syntax → List ℕ → List ℕ
article_text y [] = 45 ∷ []
article_text y (b ∷ bs) = plain y false (b ∷ bs)

-- what stands before the article, and what behind it
unfoldable pub before : ℕ → List ℕ
before position = 80 ∷ (words (position ∷ []) ++ (32 ∷ []))

unfoldable pub behind : ℤ → ℤ → List ℕ
behind amount decimals = word amount ++ (word decimals ++ (10 ∷ []))

-- "`P position article amount decimals`"
unfoldable pub price_line : Syntax → Told → List ℕ
price_line y t = before t.position ++ (article_text y t.article ++ behind t.amount t.decimals)

unfoldable pub price_lines : Syntax → List Told → List ℕ
price_lines y [] = []
price_lines y (t ∷ ts) = price_line y t ++ price_lines y ts

-- only an accepted message has lines of prices
abbrev pub if_accepted : Verdict → List ℕ → List ℕ
if_accepted (accepts n e) lines = lines
if_accepted (refuses k i p n) lines = []

-- "per message `M number start verdict segment place node` .. and then per price" a line
unfoldable pub message_lines : Syntax → ℕ → Message → List ℕ
message_lines y n m =
    line_of 77 (n ∷ start_of m ∷ numbers_of (judged y m)) ++ if_accepted (judged y m) (price_lines y (map (told_of y) (listed y m)))

-- the lines of messages, of which the first has the number n
unfoldable pub lines_from : Syntax → ℕ → List Message → List ℕ
lines_from y n [] = []
lines_from y n (m ∷ ms) = message_lines y n m ++ lines_from y (n + 1) ms

-- item 8: "a line `V number place` before E, with `V 0 0` when all is well"
unfoldable pub envelope_line : Syntax → List ℕ → List ℕ
envelope_line y d = line_of 86 (envelope_numbers (envelope_of y d))

-- "Last `E messages accepted outside`", with survey's counts; a delivery that is refused as a whole has `X` and the number alone
abbrev pub report_by : Syntax → List ℕ → Result Survey ℕ → List ℕ
report_by y d (Ok s) = lines_from y 1 (messages y d) ++ (envelope_line y d ++ line_of 69 (s.messages ∷ s.accepted ∷ s.outside ∷ []))
report_by y d (Err n) = line_of 88 (n ∷ [])

-- all that is printed
unfoldable pub report_of : Reading → List ℕ → List ℕ
report_of how d = report_by (used_in how d) d (survey_of (used_in how d) d)
