-- The verdict of a message, agreeing positions aside, by placing one segment after the other. Document 01, 'Refusal numbers': "In a message the first
-- segment with a fault decides; within it 12, 10, 11, 13, 15 or 16, 14, then components left to right (18, 17, 19, 20 at each), then 21 or 22", and
-- request 2's 25 "after 15 and 16"; item 10: "16 ends".
use Rattle.std.specs.Prelude.{ℕ, zero, suc, ◌+◌, Bool, false, not, ◌&&◌, cond, List, [], ◌∷◌, eqb}
use Rattle.cut.specs.declared.service.Syntax.{Syntax}
use Rattle.bytewise.specs.Bytes.{bytes_of}
use Rattle.cut.specs.Segments.{Segment, end_of}
use Rattle.messages.specs.Messages.{Message, start_of}
use Rattle.clean.specs.Clean.{allowed_bytes, tagged_bytes}
use Rattle.plain.specs.Plain.{same}
use Rattle.value.specs.Digits.{count_of}
use Rattle.std.specs.Prelude.{Option, Some, None}
use Rattle.guide.specs.Choices.{pickℕ, or_else}
use Rattle.guide.specs.Nodes.{Guide, capacity, number_of}
use Rattle.guide.specs.Views.{view_of}
use Rattle.guide.specs.Page.{Page}
use Rattle.guide.specs.Content.{text}
use Rattle.guide.specs.workers.PageFault.{page_fault}
use Rattle.guide.specs.Tree.{one}
use Rattle.guide.specs.workers.Placing.{place, State, start, after}
use Rattle.guide.specs.Answers.{Answer, placed, refused, Verdict, accepts, refuses}
use Rattle.guide.specs.Sheet.{is_tag}

-- what is kept of the segments before: where placing stands, how many positions there were, and the reference in UNH
pub record Memory : Type 0 where
  pub state : State
  pub positions : ℕ
  pub reference : List ℕ

-- before the first segment
abbrev pub fresh : Memory
fresh = record { state = start capacity; positions = 0; reference = [] }

-- whether a count is n
abbrev pub is : ℕ → Option ℕ → Bool
is n (Some k) = eqb k n
is n None = false

-- 12, 10, 11, in this order; 0 if none
unfoldable pub bytes_fault : Syntax → Segment → ℕ
bytes_fault y s = pickℕ s.piece 12 (pickℕ (not (allowed_bytes s.bytes)) 10 (pickℕ (not (tagged_bytes y s.bytes)) 11 0))

module _ (y : Syntax) (g : Guide) (pages : ℕ → Page) where
  -- 21, "UNT count or reference differs", where UNT is segment i and r the reference
  unfoldable pub end_fault : ℕ → List ℕ → Segment → ℕ
  end_fault i r s = pickℕ (is i (count_of (text y s.bytes 1 0)) && same (text y s.bytes 2 0) r) 0 21

  -- 22, "LIN number is not the next", which is n
  unfoldable pub line_fault : ℕ → Segment → ℕ
  line_fault n s = pickℕ (is n (count_of (text y s.bytes 1 0))) 0 22

  -- 21 or 22 of segment i, which is given node n
  unfoldable pub rule_fault : ℕ → Memory → ℕ → Segment → ℕ
  rule_fault i m n s =
      pickℕ (is_tag g (bytes_of "UNT") n) (end_fault i m.reference s)
      (pickℕ (is_tag g (bytes_of "LIN") n) (line_fault (suc m.positions) s) 0)

  -- the fault of segment i once it has its node
  unfoldable pub content_fault : ℕ → Memory → ℕ → Segment → ℕ
  content_fault i m n s = or_else (page_fault y (pages n) s.bytes) (rule_fault i m n s)

  -- a number for the segment's own node, or none
  abbrev pub unless_fault : ℕ → ℕ → Answer
  unless_fault zero n = placed n
  unless_fault (suc k) n = refused (suc k) n

  abbrev pub then_content : ℕ → Memory → Segment → Answer → Answer
  then_content i m s (placed n) = unless_fault (content_fault i m n s) n
  then_content i m s (refused k n) = refused k n

  -- "for 10, 11, 12 .. node 0"
  abbrev pub then_place : ℕ → Answer → Answer
  then_place zero a = a
  then_place (suc k) a = refused (suc k) 0

  -- what comes of segment i: its node, or its first fault with the node that is named
  unfoldable pub segment_answer : ℕ → Memory → Segment → Answer
  segment_answer i m s =
      then_place (bytes_fault y s) (then_content i m s (place g (view_of y s.bytes) m.state.last m.state.counts))

  -- what is kept after a segment that is given node n
  abbrev pub remember : Answer → Segment → Memory → Memory
  remember (placed n) s m =
      record {
        state = after g (placed n) m.state;
        positions = m.positions + one (is_tag g (bytes_of "LIN") n);
        reference = cond (is_tag g (bytes_of "UNH") n) (text y s.bytes 1 0) m.reference;
      }
  remember (refused k n) s m = m

  -- segment i at a place got the answer; the rest is what comes of those after it
  abbrev pub decide : ℕ → ℕ → Answer → Verdict → Verdict
  decide i p (placed n) rest = rest
  decide i p (refused k n) rest = refuses k i p (number_of g n)

  -- the segments after the first i, which end at e; "24 names the segment number after the last and the byte after it"
  unfoldable pub judge_from : ℕ → ℕ → Memory → List Segment → Verdict
  judge_from i e m [] = cond (is_tag g (bytes_of "UNT") m.state.last) (accepts i e) (refuses 24 (suc i) e 0)
  judge_from i e m (s ∷ ss) =
      decide (suc i) s.start (segment_answer (suc i) m s)
      (judge_from (suc i) (end_of s) (remember (segment_answer (suc i) m s) s m) ss)

  -- a message, agreeing positions aside
  unfoldable pub judged : Message → Verdict
  judged m = judge_from 0 (start_of m) fresh (m.first ∷ m.rest)
