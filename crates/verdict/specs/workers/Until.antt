-- What a message is told where its walk ends at a segment that begins at a place: without a fault its node is named, with 23.
use Rattle.std.specs.Prelude.{ℕ, suc, Bool, cond, List, [], ◌∷◌, eqb}
use Rattle.cut.specs.declared.service.Syntax.{Syntax}
use Rattle.bytewise.specs.Bytes.{bytes_of}
use Rattle.cut.specs.Segments.{Segment, end_of}
use Rattle.guide.specs.Answers.{Answer, placed, refused, Verdict, accepts, refuses}
use Rattle.guide.specs.workers.Judging.{Memory, segment_answer, remember}
use Rattle.guide.specs.Nodes.{Guide, number_of}
use Rattle.guide.specs.Page.{Page}
use Rattle.guide.specs.Sheet.{is_tag}

module _ (y : Syntax) (g : Guide) (pages : ℕ → Page) (stop : ℕ) where
  -- segment i at a place got the answer; b: the walk ends at it; the rest is what comes of those after it
  abbrev pub decide_until : Bool → ℕ → ℕ → Answer → Verdict → Verdict
  decide_until b i p (placed n) rest = cond b (refuses 23 i p (number_of g n)) rest
  decide_until b i p (refused k n) rest = refuses k i p (number_of g n)

  -- the segments after the first i, which end at e, up to the one that begins at `stop`
  unfoldable pub judge_until : ℕ → ℕ → Memory → List Segment → Verdict
  judge_until i e m [] = cond (is_tag g (bytes_of "UNT") m.state.last) (accepts i e) (refuses 24 (suc i) e 0)
  judge_until i e m (s ∷ ss) =
      decide_until (eqb s.start stop) (suc i) s.start (segment_answer y g pages (suc i) m s)
      (judge_until (suc i) (end_of s) (remember y g pages (segment_answer y g pages (suc i) m s) s m) ss)
