-- Document 01's example, and a sheet with a price: what is printed, by computation.
use Prim.Native.Nat.{ℕ}
use Prim.Native.String.{String}
use mathlib.Core.Path.{◌≡◌, refl}
use mathlib.Core.List.{List, [], ◌∷◌, ◌++◌}
use Rattle.bytewise.specs.Bytes.{bytes_of}
use Rattle.cut.specs.Segments.{begins_in}
use Rattle.cut.specs.Used.{named, characters_of}
use Rattle.value.specs.Text.{digits_in, text_of}
use Rattle.messages.specs.Messages.{inside, others, outside_in, outside}
use Rattle.verdict.specs.Answers.{numbers_of}
use Rattle.price.specs.Cursors.{told_of}
use Rattle.schaumtruhe.specs.Readings.{usual_reading}
use Rattle.schaumtruhe.specs.Calls.{accepted, survey_of}
use Rattle.schaumtruhe.proofs.keeping.Tails.{judged_at, filled_at, refused_twice, priced_second}
use Rattle.envelope.specs.Envelope.{stands, opened_by, envelope_of, envelope_numbers}
use Rattle.print.specs.Report.{word, words, line_of, article_text, before, behind, price_line, price_lines}
use Rattle.print.specs.Report.{message_lines, lines_from, envelope_line, report_of}

-- a text as a line
abbrev lined : String → List ℕ → List ℕ
lined s rest = bytes_of s ++ (10 ∷ rest)

-- document 01's example, with item 8's line: its first segment is no UNB
pub example
    : report_of usual_reading refused_twice
    ≡ lined "M 1 0 14 3 38 4" (lined "M 2 46 24 2 73 0" (lined "V 50 0" (lined "E 2 0 0" [])))
unfolding
    judged_at named characters_of begins_in text_of digits_in inside others outside_in outside numbers_of accepted survey_of
    stands opened_by envelope_of envelope_numbers word words line_of message_lines lines_from envelope_line report_of
example = refl

-- the messages that samples of demand 3 have: a refused one, and an accepted one with a price
pub priced_example
    : report_of usual_reading priced_second
    ≡ lined "M 1 0 14 2 27 2" (lined "M 2 35 0 10 170 0" (lined "P 1 A 16806 2" (lined "V 50 0" (lined "E 2 1 0" []))))
unfolding
    filled_at named characters_of begins_in text_of digits_in inside others outside_in outside numbers_of accepted survey_of told_of
    stands opened_by envelope_of envelope_numbers word words line_of article_text before behind
    price_line price_lines message_lines lines_from envelope_line report_of
priced_example = refl
