-- The verdict of a message: where all its segments are judged without a fault its last node decides, and otherwise the first that has one.
use mathlib.Core.Bool.{cond}
use Prim.Native.Nat.{ℕ, suc, ◌+◌}
use mathlib.Core.Path.{◌≡◌}
use native.Mathlib.Omega.{arith}
use lib.ListN.{length}
use Rattle.cut.specs.declared.service.Syntax.{Syntax}
use Rattle.bytewise.specs.Bytes.{bytes_of}
use Rattle.messages.specs.Messages.{Message, start_of, close_of}
use Rattle.cut.specs.Segments.{last_end}
use Rattle.guide.specs.Nodes.{Guide, number_of}
use Rattle.guide.specs.Page.{Page}
use Rattle.guide.specs.Sheet.{is_tag}
use Rattle.guide.specs.Accepted.{segments_of}
use Rattle.guide.specs.Answers.{accepts, refuses}
use Rattle.guide.specs.workers.Judging.{fresh, judged}
use Rattle.guide.proofs.judging.Faultless.{kept, Through, Stopped, through_verdict, stopped_verdict}

module _ (y : Syntax) (g : Guide) (pages : ℕ → Page) (m : Message) where
  pub through_judged
      : (t : Through y g pages 0 fresh (segments_of m))
      → judged y g pages m
      ≡ cond (is_tag g (bytes_of "UNT") (kept y g pages fresh t.given).state.last) (accepts (length (segments_of m)) (close_of m))
      (refuses 24 (suc (length (segments_of m))) (close_of m) 0)
  unfolding judged last_end
  through_judged t =
      let z : length (segments_of m) + 0 ≡ length (segments_of m) = omega arith in
      rw z at (through_verdict y g pages 0 (start_of m) fresh (segments_of m) t)

  pub stopped_judged
      : (t : Stopped y g pages 0 fresh (segments_of m))
      → judged y g pages m ≡ refuses t.number (suc (length t.given)) t.segment.start (number_of g t.node)
  unfolding judged
  stopped_judged t =
      let z : length t.given + 0 ≡ length t.given = omega arith in
      rw z at (stopped_verdict y g pages 0 (start_of m) fresh (segments_of m) t)

-- an acceptance is no refusal
pub accepts_refuses : {n e k i s d : ℕ} → accepts n e ≡ refuses k i s d → ⊥
accepts_refuses v = let z : ◌≡◌ {A = ℕ} 0 1 = cc in omega arith
