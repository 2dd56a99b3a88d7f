-- Two tails for samples of demand 3, at the service characters `:+.?'`: their messages, and what the calls answer there, by computation.
use Prim.Native.Nat.{ℕ, ◌+◌}
use Prim.Native.String.{String}
use mathlib.Core.Path.{◌≡◌, refl}
use mathlib.Core.Bool.{false}
use mathlib.Core.List.{List, [], ◌∷◌, ◌++◌}
use lib.IntN.{ℤ, pos, negsuc}
use lib.ListN.{length}
use Rattle.cut.specs.Admission.{admits, opens, admission_of, opening_of, segments}
use Rattle.cut.specs.Base.{edifact}
use Rattle.bytewise.specs.Bytes.{bytes_of, begins}
use Rattle.cut.specs.Segments.{ends, frees, join, segments_from, is_break, trim, trimmed, segments_of, past}
use Rattle.messages.specs.Messages.{Message, tag_of, body, messages_in, messages}
use Rattle.cut.specs.Characters.{between, allowed_byte, may_serve, has, all_serve, distinct, valid}
use Rattle.clean.specs.Clean.{allowed_bytes, capital, ends_tag, lettered, tagged_bytes}
use Rattle.element.specs.Components.{in_element, width, in_elements, components, span_in}
use Rattle.value.specs.Digits.{padded, is_count, count_of}
use Rattle.element.specs.Elements.{ending_of, stays, releases, before, split_from, elements, component}
use Rattle.value.specs.Format.{fits_format}
use Rattle.value.specs.Number.{number_of}
use Rattle.value.specs.Numeral.{some, none, is_digit, digits_ahead, behind_digits, minus, unsigned, whole, fraction, digits, is_tail, is_number, decimal}
use Rattle.plain.specs.Plain.{unless_mark, plain, same}
use Rattle.guide.specs.Composites.{S009, C002, C106, C507, C506, C082, C212, services, C509, basis}
use Rattle.guide.specs.Content.{text}
use Rattle.guide.specs.Answers.{Verdict, accepts, refuses}
use Rattle.guide.specs.workers.Judging.{bytes_fault, end_fault, line_fault, rule_fault, content_fault, segment_answer, judge_from}
use Rattle.guide.specs.Nodes.{among, chosen, matches, paired, required, number_of as node_number}
use Rattle.guide.specs.Page.{codes, simple, element_of, row_of}
use Rattle.guide.specs.workers.PageFault.{
  first_of,
  not_used,
  missing,
  wrong_format,
  wrong_code,
  text_fault,
  component_fault,
  any_filled,
  element_fault,
  page_fault,
}
use Rattle.guide.specs.Pages20d.{coded, UNH, BGM, DTM, RFF, NAD, PGI, LIN, PRI, UNT, pages20d, page_of}
use Rattle.guide.specs.workers.Placing.{
  lowest,
  levels,
  fits_in,
  seek,
  lacking,
  place,
  indexed,
  recounted,
  counts_after,
  last_after,
  given,
  missing as missing_in,
}
use Rattle.guide.specs.Pricat.{pricat20d}
use Rattle.guide.specs.Sheet.{is_tag}
use Rattle.guide.specs.Views.{view_of}
use Rattle.agree.specs.Positions.{next_if, behind_if, heading_from, positions_from, positions_of, agrees_any, first_after, first_agreeing}
use Rattle.verdict.specs.Named.{edition_in, edition_of}
use Rattle.verdict.specs.Verdicts.{named_of, nodes_of, for_intervals, unless_agreeing, settled, verdict_from, verdict_of}
use Rattle.price.specs.Calls.{numbers_from, filled_of, row_after, first_article}
use Rattle.price.specs.Listing.{kind_of, rng_next, prices_from, prices_of}
use Rattle.price.specs.Numbers.{article_in, article_place, article_length, price_in, unit_rank, place_of_first, numbers_of}
use Rattle.price.specs.Rows.{all_numbers, fitting, filled_row}
use Rattle.schaumtruhe.specs.Calls.{beginning_at, verdict_at, sheet_at, priced_at, row_at, article_refusal, article_at}
use Rattle.price.specs.declared.filling.Filled.{Filled}
use Rattle.std.specs.Prelude.{Result, Ok}

-- judge_at
unfoldable pub judged_at : List ℕ → ℕ → Verdict
unfolding
    begins ends frees join segments_from is_break trim trimmed segments_of past between allowed_byte may_serve
    has all_serve distinct valid admits opens admission_of opening_of segments tag_of body messages_in messages
    allowed_bytes capital ends_tag lettered tagged_bytes padded is_count count_of
    ending_of stays releases before split_from elements component fits_format
    some none is_digit digits_ahead behind_digits minus unsigned whole fraction digits is_tail is_number decimal unless_mark plain same
    S009 C002 C106 C507 C506 C082 C212 services C509 basis text
    bytes_fault end_fault line_fault rule_fault content_fault segment_answer judge_from
    among chosen matches paired required node_number codes simple element_of row_of
    first_of not_used missing wrong_format wrong_code text_fault component_fault any_filled element_fault page_fault
    coded UNH BGM DTM RFF NAD PGI LIN PRI UNT pages20d page_of
    lowest levels fits_in seek lacking place indexed recounted counts_after last_after given missing_in pricat20d is_tag view_of
    next_if behind_if heading_from positions_from positions_of agrees_any first_after first_agreeing
    nodes_of unless_agreeing for_intervals settled verdict_from verdict_of edition_in edition_of named_of beginning_at verdict_at
judged_at d at = verdict_at edifact d at

-- prices: the answer and the row
unfoldable pub filled_at : List ℕ → ℕ → ℕ → List ℤ → Result Filled ℕ × List ℤ
unfolding
    judged_at in_element width in_elements components span_in number_of numbers_from filled_of row_after first_article kind_of rng_next prices_from prices_of
    article_in
    article_place
    article_length price_in unit_rank place_of_first numbers_of all_numbers fitting filled_row sheet_at priced_at row_at article_refusal article_at
filled_at d at k row = (priced_at edifact d at k row, row_at edifact d at k row)

-- a message of one segment that stands at a place, and those after it
abbrev pub message_of : ℕ → String → String → Message
message_of p a b =
    record {
      first = record { start = p; bytes = bytes_of a; piece = false };
      rest = segments_of edifact (p + length (bytes_of a)) (bytes_of b);
    }

-- document 01's input line, with the verdicts that it prints
abbrev pub refused_twice : List ℕ
refused_twice = bytes_of "UNH+1+PRICAT:D:20B:UN:2.0d'BGM+Z32+A1'UNT+3+1'UNH+2+PRICAT:D:20B:UN:2.0d'"

abbrev pub incomplete : Message
incomplete = message_of 0 "UNH+1+PRICAT:D:20B:UN:2.0d'" "BGM+Z32+A1'UNT+3+1'"

abbrev pub unfinished : Message
unfinished = message_of 46 "UNH+2+PRICAT:D:20B:UN:2.0d'" ""

pub refused-twice : messages edifact refused_twice ≡ incomplete ∷ unfinished ∷ []
unfolding judged_at
refused-twice = refl

pub incomplete_verdict : verdict_at edifact refused_twice 0 ≡ refuses 14 3 38 4
unfolding judged_at
incomplete_verdict = refl

pub unfinished_verdict : verdict_at edifact refused_twice 46 ≡ refuses 24 2 73 0
unfolding judged_at
unfinished_verdict = refl

-- a refused message and then an accepted one with a price
abbrev pub priced_second : List ℕ
priced_second =
    bytes_of "UNH+1+PRICAT:D:20B:UN:2.0d'UNT+2+1'"
    ++ bytes_of "UNH+2+PRICAT:D:20B:UN:2.0d'BGM+Z32+A1'DTM+137:1:303'RFF+Z13:27002'NAD+MR+1::9'NAD+MS+2::9'PGI+Z01'LIN+1++A:Z09'PRI+CAL:168.06'UNT+10+2'"

abbrev pub empty : Message
empty = message_of 0 "UNH+1+PRICAT:D:20B:UN:2.0d'" "UNT+2+1'"

abbrev pub sheet : Message
sheet =
    message_of 35 "UNH+2+PRICAT:D:20B:UN:2.0d'"
    "BGM+Z32+A1'DTM+137:1:303'RFF+Z13:27002'NAD+MR+1::9'NAD+MS+2::9'PGI+Z01'LIN+1++A:Z09'PRI+CAL:168.06'UNT+10+2'"

pub priced-second : messages edifact priced_second ≡ empty ∷ sheet ∷ []
unfolding judged_at
priced-second = refl

pub empty-verdict : verdict_at edifact priced_second 0 ≡ refuses 14 2 27 2
unfolding judged_at
empty-verdict = refl

pub sheet-verdict : verdict_at edifact priced_second 35 ≡ accepts 10 170
unfolding judged_at
sheet-verdict = refl

-- a row with room for one price and a number more; and with the price: 168.06 for the article that stands 105 bytes from the message's start
abbrev pub row : List ℤ
row = pos 7 ∷ pos 7 ∷ pos 7 ∷ pos 7 ∷ pos 7 ∷ pos 7 ∷ pos 7 ∷ pos 7 ∷ pos 7 ∷ []

abbrev pub filled : List ℤ
filled = pos 1 ∷ pos 105 ∷ pos 1 ∷ pos 16806 ∷ pos 2 ∷ pos 0 ∷ pos 111 ∷ negsuc 0 ∷ pos 7 ∷ []

pub sheet-priced : (priced_at edifact priced_second 35 0 row ≡ Ok (record { written = 1; total = 1 })) × (row_at edifact priced_second 35 0 row ≡ filled)
unfolding filled_at
sheet-priced = (refl, refl)

pub sheet-article : (article_refusal edifact priced_second 35 0 ≡ 0) × (article_at edifact priced_second 35 0 ≡ record { start = 140; end = 141 })
unfolding filled_at
sheet-article = (refl, refl)
