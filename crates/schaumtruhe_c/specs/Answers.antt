-- Each answer as a struct of numbers: first 0 or document 01's refusal number, then what the call hands out, or 0.
use Rattle.std.specs.Prelude.{ℕ, ◌+◌, ◌-◌, cond, List, [], ◌∷◌, eqb, Option, Some, None, Result, Ok, Err}
use Rattle.cut.specs.declared.service.Syntax.{Syntax}
use Rattle.cut.specs.declared.scan.Cut.{Cut}
use Rattle.cut.specs.Admission.{admission_of}
use Rattle.plain.specs.Plain.{decoded}
use Rattle.envelope.specs.Envelope.{Enveloped, Complete, Refused as Incomplete}
use Rattle.messages.specs.declared.found.Message.{Message}
use Rattle.element.specs.declared.components.Span.{Span}
use Rattle.guide.specs.Answers.{Verdict, accepts, refuses}
use Rattle.price.specs.declared.filling.Filled.{Filled}
use Rattle.schaumtruhe.specs.declared.surveys.Survey.{Survey}
use Rattle.schaumtruhe.specs.Calls.{article_refusal, article_at}
use Rattle.schaumtruhe_c.specs.declared.answers.Totals.{Totals}
use Rattle.schaumtruhe_c.specs.declared.answers.Envelope.{Envelope}
use Rattle.schaumtruhe_c.specs.declared.answers.Next.{Next}
use Rattle.schaumtruhe_c.specs.declared.answers.Judged.{Judged}
use Rattle.schaumtruhe_c.specs.declared.answers.Prices.{Prices}
use Rattle.schaumtruhe_c.specs.declared.answers.Article.{Article}
use Rattle.schaumtruhe_c.specs.declared.answers.Segment.{Segment}

-- "messages found, accepted, and segments outside"
abbrev pub totals_of : Result Survey ℕ → Totals
totals_of (Ok s) = record { number = 0; messages = s.messages; accepted = s.accepted; outside = s.outside }
totals_of (Err n) = record { number = n; messages = 0; accepted = 0; outside = 0 }

-- item 8: "`V 0 0` when all is well"
abbrev pub enveloped : Enveloped → Envelope
enveloped Complete = record { number = 0; place = 0 }
enveloped (Incomplete n p) = record { number = n; place = p }

-- "the next message that begins there or later, with its start and end, or the answer that there is none"
abbrev pub next_of : Option Message → Next
next_of (Some m) = record { found = 1; start = m.start; end = m.end }
next_of None = record { found = 0; start = 0; end = 0 }

-- "an accepted one has verdict 0, its count of segments, the byte after it, 0"
abbrev pub judged_of : Verdict → Judged
judged_of (accepts n e) = record { number = 0; segment = n; place = e; node = 0 }
judged_of (refuses k i p n) = record { number = k; segment = i; place = p; node = n }

-- "how many were written and how many the message has"
abbrev pub prices_of : Result Filled ℕ → Prices
prices_of (Ok f) = record { number = 0; written = f.written; total = f.total }
prices_of (Err n) = record { number = n; written = 0; total = 0 }

-- "The article of a price, as that part of the delivery itself": its place and length there
abbrev pub article_of : ℕ → Span → Article
article_of n s = record { number = n; place = s.start; length = s.end - s.start }

abbrev pub article_answer : Syntax → List ℕ → ℕ → ℕ → Article
article_answer y d at k = article_of (article_refusal y d at k) (article_at y d at k)

-- "the next segment's start, end and whether it is a piece, or none"
abbrev pub segment_of : Option Cut → Segment
segment_of (Some c) = record { found = 1; start = c.start; end = c.end; piece = cond c.piece 1 0 }
segment_of None = record { found = 0; start = 0; end = 0; piece = 0 }

-- the part of the delivery of n bytes from the place a on, "releases removed"; it has no byte in a delivery that is not admitted
unfoldable pub plain_at : Syntax → List ℕ → ℕ → ℕ → List ℕ
plain_at z d a n = cond (eqb (admission_of z d) 0) (decoded z a (a + n) d) []

-- the numbers of an answer in the order of its fields
unfoldable pub totals_numbers : Totals → List ℕ
totals_numbers t = t.number ∷ t.messages ∷ t.accepted ∷ t.outside ∷ []

unfoldable pub enveloped_numbers : Envelope → List ℕ
enveloped_numbers e = e.number ∷ e.place ∷ []

unfoldable pub judged_numbers : Judged → List ℕ
judged_numbers j = j.number ∷ j.segment ∷ j.place ∷ j.node ∷ []

unfoldable pub prices_numbers : Prices → List ℕ
prices_numbers p = p.number ∷ p.written ∷ p.total ∷ []

unfoldable pub article_numbers : Article → List ℕ
article_numbers a = a.number ∷ a.place ∷ a.length ∷ []
