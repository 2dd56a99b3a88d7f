-- What the workers promise each other that judge one segment.
use Rattle.std.specs.Prelude.{ℕ, suc, ◌≡◌, Bool, true, false, cond, List, [], Option, Some, None, Result, Ok, Err}
use Rattle.cut.specs.declared.scan.Cut.{Cut}
use Rattle.cut.specs.declared.service.Syntax.{Syntax}
use Rattle.bytewise.specs.Bytes.{bytes_of}
use Rattle.cut.specs.Calls.{cut_at}
use Rattle.cut.specs.Segments.{Segment}
use Rattle.element.specs.Components.{component_at}
use Rattle.plain.specs.Plain.{decoded}
use Rattle.element.specs.declared.components.Span.{Span}
use Rattle.guide.specs.Answers.{Answer, placed, refused}
use Rattle.guide.specs.Choices.{pickℕ}
use Rattle.guide.specs.Reasons.{number_of_reason}
use Rattle.guide.specs.workers.Judging.{Memory, bytes_fault, end_fault, line_fault, then_content, then_place}
use Rattle.guide.specs.workers.Placing.{place, counts_after}
use Rattle.guide.specs.Views.{view_of}
use Rattle.guide.specs.Editions.{guide_of, pages_of}
use Rattle.guide.specs.declared.edition.Edition.{Edition}
use Rattle.guide.specs.Sheet.{is_tag}
use Rattle.page.specs.Reading.{segment_in}
use Rattle.verdict.specs.declared.kept.Kept.{Kept}
use Rattle.verdict.specs.declared.roles.Role.{Role}
use Rattle.verdict.specs.declared.roles.Role.TheVariants.{Lin, Unt, Unh, Bgm, Other}
use Rattle.verdict.specs.declared.segment.Blamed.{Blamed}
use Rattle.verdict.specs.declared.segment.Found.{Found}

-- the bytes of a span, releases removed
unfoldable pub spanned : Syntax → Span → List ℕ → List ℕ
spanned y s d = decoded y s.start s.end d

-- what is kept, with the counts cs
abbrev pub noted : Syntax → Kept → List ℕ → List ℕ → Memory
noted y k cs d =
    record {
      state = record { last = k.last; counts = cs };
      positions = k.positions;
      reference = spanned y k.reference d;
    }

-- what a segment is to the rules of a message, by the tag of its node
unfoldable pub role_of : Edition → ℕ → Role
role_of ed n =
    cond (is_tag (guide_of ed) (bytes_of "LIN") n) Lin
    (cond (is_tag (guide_of ed) (bytes_of "UNT") n) Unt
    (cond (is_tag (guide_of ed) (bytes_of "UNH") n) Unh
    (cond (is_tag (guide_of ed) (bytes_of "BGM") n) Bgm Other)))

-- whether it is LIN, UNT, UNH, BGM
abbrev pub is_lin : Role → Bool
is_lin Lin = true
is_lin Unt = false
is_lin Unh = false
is_lin Bgm = false
is_lin Other = false

abbrev pub is_unt : Role → Bool
is_unt Lin = false
is_unt Unt = true
is_unt Unh = false
is_unt Bgm = false
is_unt Other = false

abbrev pub is_unh : Role → Bool
is_unh Lin = false
is_unh Unt = false
is_unh Unh = true
is_unh Bgm = false
is_unh Other = false

abbrev pub is_bgm : Role → Bool
is_bgm Lin = false
is_bgm Unt = false
is_bgm Unh = false
is_bgm Bgm = true
is_bgm Other = false

-- 21 of the segment i from a place up to another, which is UNT
abbrev pub end_fault_in : Edition → Syntax → List ℕ → ℕ → ℕ → ℕ → Span → ℕ
end_fault_in ed y d a e i reference = end_fault y (guide_of ed) (pages_of ed) i (spanned y reference d) (segment_in a e false d)

-- 21 or 22 of segment i, by its role
unfoldable pub rule_by : Edition → Syntax → ℕ → Memory → Role → Segment → ℕ
rule_by ed y i m r s =
    pickℕ (is_unt r) (end_fault y (guide_of ed) (pages_of ed) i m.reference s)
    (pickℕ (is_lin r) (line_fault y (guide_of ed) (pages_of ed) (suc m.positions) s) 0)

-- the segment from a place up to another that is given the node n
abbrev pub found_at : Edition → Syntax → List ℕ → ℕ → ℕ → ℕ → Found
found_at ed y d a e n =
    record { node = n; role = role_of ed n; first = component_at y d a e 1 0; third = component_at y d a e 3 0; end = e }

-- the refusal of a segment as it is numbered: its first fault, the row of the node that is named, and the byte after it
pub record Blame : Type 0 where
  pub number : ℕ
  pub node : ℕ
  pub end : ℕ

abbrev pub blamed_at : ℕ → ℕ → ℕ → Blame
blamed_at k n e = record { number = k; node = n; end = e }

-- what is told of a segment, with the number in place of the reason
abbrev pub told_of : Result Found Blamed → Result Found Blame
told_of (Ok f) = Ok f
told_of (Err b) = Err (blamed_at (number_of_reason b.reason) b.node b.end)

-- the answer for that segment: its node, with what goes with it, or the refusal; and its end
unfoldable pub answered : Edition → Syntax → List ℕ → ℕ → ℕ → Answer → Result Found Blame
answered ed y d a e (placed n) = Ok (found_at ed y d a e n)
answered ed y d a e (refused k n) = Err (blamed_at k n e)

-- the answer for the segment that is cut at a place: 12, 10 or 11, or what f says of it; without a byte it is 12
unfoldable pub cut_answer : Edition → Syntax → List ℕ → ℕ → (Segment → Answer) → Option Cut → Result Found Blame
cut_answer ed y d a f None = Err (blamed_at 12 0 a)
cut_answer ed y d a f (Some c) =
    answered ed y d a c.end
    (then_place y (guide_of ed) (pages_of ed) (bytes_fault y (segment_in a c.end c.piece d)) (f (segment_in a c.end c.piece d)))

-- what comes of segment i without a fault of its bytes: placing, and then its components and the rules; the counts are cs
abbrev pub placed_answer : Edition → Syntax → List ℕ → ℕ → Kept → List ℕ → Segment → Answer
placed_answer ed y d i k cs s =
    then_content y (guide_of ed) (pages_of ed) i (noted y k cs d) s (place (guide_of ed) (view_of y s.bytes) k.last cs)

-- where a segment fits, the counts cs before it have become cs'
abbrev pub CountedOn : Edition → Result Found Blame → List ℕ → List ℕ → Type 0
CountedOn ed r cs cs' = (f : Found) → r ≡ Ok f → cs' ≡ counts_after (guide_of ed) (placed f.node) cs

-- the answer for the segment at a place, where f says what comes of it without a fault of its bytes
abbrev pub answer_at : Edition → Syntax → List ℕ → ℕ → (Segment → Answer) → Result Found Blame
answer_at ed y d a f = cut_answer ed y d a f (cut_at y d a)

-- what comes of segment i without a fault of its bytes, once it has the node n
abbrev pub content_answer : Edition → Syntax → List ℕ → ℕ → Kept → ℕ → Segment → Answer
content_answer ed y d i k n s = then_content y (guide_of ed) (pages_of ed) i (noted y k [] d) s (placed n)
