-- The verdict of a message. Document 01, 'Refusal numbers': "23 comes only when all else holds; it names the first LIN that agrees with an
-- earlier one."
use Rattle.std.specs.Prelude.{ℕ, Bool, false, ◌&&◌, ◌||◌, cond, List, [], ◌∷◌, map, get_or, Option, Some, None}
use Rattle.cut.specs.declared.service.Syntax.{Syntax}
use Rattle.bytewise.specs.Bytes.{bytes_of}
use Rattle.cut.specs.Segments.{Segment}
use Rattle.messages.specs.Messages.{Message, start_of}
use Rattle.plain.specs.Plain.{same}
use Rattle.guide.specs.Nodes.{Guide, capacity, number_of}
use Rattle.guide.specs.Page.{Page}
use Rattle.guide.specs.Content.{text}
use Rattle.guide.specs.workers.Placing.{start, given}
use Rattle.guide.specs.Sheet.{is_tag}
use Rattle.guide.specs.Accepted.{seen, segments_of}
use Rattle.guide.specs.Answers.{Verdict, accepts, refuses}
use Rattle.guide.specs.workers.Judging.{fresh, judge_from}
use Rattle.guide.specs.Editions.{guide_of, pages_of}
use Rattle.verdict.specs.Named.{edition_of, guide_named, pages_named}
use Rattle.agree.specs.Positions.{positions_of, first_agreeing}
use Rattle.agree.specs.declared.first.Agreeing.{Agreeing}

module _ (y : Syntax) (g : Guide) where
  -- the nodes that the segments are given, one after the other
  unfoldable pub nodes_of : List Segment → List ℕ
  nodes_of ss = given g (map (seen y) ss) (start capacity)

  -- the node of segment i, "counted from 1"; 0 if it is given none
  unfoldable pub node_of : List Segment → ℕ → ℕ
  node_of ss i = get_or (0 ∷ nodes_of ss) i 0

  -- "For Z04 the rule does not apply": one of the segments ss, which are given the nodes ns, is a BGM whose 1001 is Z04
  unfoldable pub for_intervals : List ℕ → List Segment → Bool
  for_intervals [] ss = false
  for_intervals (n ∷ ns) [] = false
  for_intervals (n ∷ ns) (s ∷ ss) =
      (is_tag g (bytes_of "BGM") n && same (text y s.bytes 1 0) (bytes_of "Z04")) || for_intervals ns ss

  -- 23, "position agrees with an earlier one", if one does, and else the verdict v; "the segment's node" is named, by its number in the guide
  unfoldable pub unless_agreeing : List Segment → Option Agreeing → Verdict → Verdict
  unless_agreeing ss None v = v
  unless_agreeing ss (Some a) v = refuses 23 a.segment a.place (number_of g (node_of ss a.segment))

  -- "23 comes only when all else holds": what comes of the verdict without it
  unfoldable pub settled : List Segment → Verdict → Verdict
  settled ss (accepts n e) =
      cond (for_intervals (nodes_of ss) ss) (accepts n e) (unless_agreeing ss (first_agreeing y (positions_of ss)) (accepts n e))
  settled ss (refuses k i p n) = refuses k i p n

module _ (y : Syntax) (g : Guide) (pages : ℕ → Page) where
  -- the verdict of the segments ss, which stand from the place a on
  unfoldable pub verdict_from : ℕ → List Segment → Verdict
  verdict_from a ss = settled y g ss (judge_from y g pages 0 a fresh ss)

  -- the verdict of a message
  unfoldable pub verdict_of : Message → Verdict
  verdict_of m = verdict_from (start_of m) (segments_of m)

module _ (y : Syntax) where
  -- the verdict of the segments ss, which stand from the place a on, by the guide that the first of them names
  unfoldable pub verdict_named : ℕ → List Segment → Verdict
  verdict_named a ss = verdict_from y (guide_of (edition_of y ss)) (pages_of (edition_of y ss)) a ss

  -- the verdict of a message by the guide named in its UNH
  unfoldable pub named_of : Message → Verdict
  named_of m = verdict_of y (guide_named y m) (pages_named y m) m
