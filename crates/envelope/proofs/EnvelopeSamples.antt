-- The answer on small deliveries at the service characters `:+.?'`, by computation: complete, and each of 50 to 55.
use Prim.Native.String.{String}
use mathlib.Core.Path.{◌≡◌, refl}
use mathlib.Core.List.{[], ◌∷◌}
use Rattle.bytewise.specs.Bytes.{bytes_of, begins}
use Rattle.cut.specs.Admission.{admits, opens, admission_of, opening_of, segments}
use Rattle.cut.specs.Base.{edifact}
use Rattle.cut.specs.Characters.{between, allowed_byte, may_serve, has, all_serve, distinct, valid}
use Rattle.cut.specs.Segments.{ends, frees, join, segments_from, is_break, trim, trimmed, segments_of, past, begins_in}
use Rattle.messages.specs.Messages.{tag_of, body, messages_in, messages, inside, others, outside_in, outside}
use Rattle.element.specs.Elements.{ending_of, stays, releases, before, split_from, elements, component}
use Rattle.plain.specs.Plain.{unless_mark, plain, same}
use Rattle.value.specs.Digits.{padded, is_count, count_of}
use Rattle.value.specs.Numeral.{some, none, is_digit, behind_digits, decimal}
use Rattle.envelope.specs.Envelope.{Enveloped, Complete, Refused, stands, last_of, counts, lacks, paired, closed_by, opened_by, envelope_of}

unfoldable pub answer_on : String → Enveloped
unfolding
    begins ends frees join segments_from is_break trim trimmed segments_of past between allowed_byte may_serve
    has all_serve distinct valid admits opens admission_of opening_of segments tag_of body messages_in messages
    inside others outside_in outside begins_in ending_of stays releases before split_from elements component unless_mark plain same
    padded is_count count_of some none is_digit behind_digits decimal
    stands last_of counts lacks paired closed_by opened_by envelope_of
answer_on t = envelope_of edifact (bytes_of t)

-- a message between UNB and UNZ
whole : answer_on "UNB+UNOC:3+A:14+B:14+261116:1200+R1'UNH+1'UNT+2+1'UNZ+1+R1'" ≡ Complete
unfolding answer_on
whole = refl

-- `0` is the count of no messages
without_messages : answer_on "UNB+UNOC:3+A:14+B:14+261116:1200+R1'UNZ+0+R1'" ≡ Complete
unfolding answer_on
without_messages = refl

-- releases are removed: `R?1` is `R1`
released : answer_on "UNB+UNOC:3+A+B+1:2+R?1'UNZ+0+R1'" ≡ Complete
unfolding answer_on
released = refl

-- 50 at the delivery's end, where there is no segment
nothing_sent : answer_on "" ≡ Refused 50 0
unfolding answer_on
nothing_sent = refl

-- line breaks alone are no segment, and count as bytes of the delivery
breaks_alone : envelope_of edifact (13 ∷ 10 ∷ []) ≡ Refused 50 2
unfolding answer_on
breaks_alone = refl

-- 50 at the first segment
no_UNB : answer_on "UNH+1'UNZ+1+R1'" ≡ Refused 50 0
unfolding answer_on
no_UNB = refl

-- 50, the first segment is a piece
UNB_unended : answer_on "UNB+UNOC:3" ≡ Refused 50 0
unfolding answer_on
UNB_unended = refl

-- 51 at the last segment, which is in a message
no_UNZ : answer_on "UNB+UNOC:3+A:14+B:14+261116:1200+R1'UNH+1'UNT+2+1'" ≡ Refused 51 42
unfolding answer_on
no_UNZ = refl

-- 51, the last segment is a piece
UNZ_unended : answer_on "UNB+UNOC:3+A:14+B:14+261116:1200+R1'UNZ+0+R1" ≡ Refused 51 36
unfolding answer_on
UNZ_unended = refl

-- 51: one segment is the first and the last
UNB_alone : answer_on "UNB+UNOC:3+A:14+B:14+261116:1200+R1'" ≡ Refused 51 0
unfolding answer_on
UNB_alone = refl

-- 52 at UNZ
other_reference : answer_on "UNB+UNOC:3+A:14+B:14+261116:1200+R1'UNZ+0+R2'" ≡ Refused 52 36
unfolding answer_on
other_reference = refl

-- 53 at UNZ
other_count : answer_on "UNB+UNOC:3+A:14+B:14+261116:1200+R1'UNH+1'UNZ+2+R1'" ≡ Refused 53 42
unfolding answer_on
other_count = refl

-- 53: "the count has no leading zeros"
leading_zero : answer_on "UNB+UNOC:3+A:14+B:14+261116:1200+R1'UNH+1'UNZ+01+R1'" ≡ Refused 53 42
unfolding answer_on
leading_zero = refl

-- 54 at the first of two
two_outside : answer_on "UNB+UNOC:3+A:14+B:14+261116:1200+R1'UNH+1'UNT+2+1'UNG+1'UNE+1'UNZ+1+R1'" ≡ Refused 54 50
unfolding answer_on
two_outside = refl

-- 55 at UNB, which has no DE0002
no_version : answer_on "UNB+UNOC+A+B+1:2+R1'UNZ+0+R1'" ≡ Refused 55 0
unfolding answer_on
no_version = refl

-- 55 at UNB, where both lack DE0020
no_references : answer_on "UNB+UNOC:3+A+B+1:2'UNZ+0'" ≡ Refused 55 0
unfolding answer_on
no_references = refl

-- 53 before 55
no_count : answer_on "UNB+UNOC+A+B+1:2+R1'UNZ++R1'" ≡ Refused 53 20
unfolding answer_on
no_count = refl
