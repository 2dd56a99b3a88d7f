-- What the workers promise each other of a message's end, and of the walks through it.
use Rattle.std.specs.Prelude.{ℕ, suc, ◌<◌, ◌^◌, ◌≡◌, true, false, cond, List, Option, Some, None, Result, Ok, Err}
use Rattle.cut.specs.declared.service.Syntax.{Syntax}
use Rattle.bytewise.specs.Bytes.{bytes_of, part}
use Rattle.cut.specs.Segments.{last_end, segments_of}
use Rattle.guide.specs.Answers.{Verdict, accepts, refuses}
use Rattle.guide.specs.workers.Judging.{fresh, judge_from}
use Rattle.guide.specs.Editions.{guide_of, pages_of}
use Rattle.guide.specs.declared.edition.Edition.{Edition}
use Rattle.guide.specs.Sheet.{is_tag}
use Rattle.agree.specs.Positions.{agreeing_at, positions_of, first_agreeing}
use Rattle.verdict.specs.declared.answers.Judged.{Judged}
use Rattle.verdict.specs.declared.ended.Conclusion.{Conclusion}
use Rattle.verdict.specs.declared.ended.Conclusion.TheVariants as ended
use Rattle.verdict.specs.declared.kept.Kept.{Kept}
use Rattle.verdict.specs.declared.message.Walked.{Walked}
use Rattle.verdict.specs.Answers.{told, judged_as}
use Rattle.verdict.specs.Named.{held_at}
use Rattle.verdict.specs.Verdicts.{unless_agreeing, verdict_from}
use Rattle.verdict.specs.workers.Until.{judge_until}

-- no position agrees with an earlier one, among the segments from `start` up to `at`
abbrev pub NoneAgrees : Syntax → List ℕ → ℕ → ℕ → Type 0
NoneAgrees y d start at = first_agreeing y (positions_of (segments_of y start (part start at d))) ≡ None

-- 23 or accepted, for n segments from `start` up to `at`
unfoldable pub agreement_at : Edition → Syntax → List ℕ → ℕ → ℕ → ℕ → Verdict
agreement_at ed y d start n at =
    unless_agreeing y (guide_of ed) (segments_of y start (part start at d))
    (first_agreeing y (positions_of (segments_of y start (part start at d)))) (accepts n at)

-- 24, 23 or accepted
unfoldable pub ended_with : Edition → Syntax → List ℕ → ℕ → Kept → ℕ → ℕ → Verdict
ended_with ed y d start k n at =
    cond (is_tag (guide_of ed) (bytes_of "UNT") k.last)
    (cond k.intervals (accepts n at) (agreement_at ed y d start n at))
    (refuses 24 (suc n) at 0)

-- what comes of the end of n segments up to `at` that fit: a verdict, or the place of the first position that agrees with an earlier one
abbrev pub EndedAs : Edition → Syntax → List ℕ → ℕ → Kept → ℕ → ℕ → Conclusion → Type 0
EndedAs ed y d start k n at (ended.Told v) = told v ≡ ended_with ed y d start k n at
EndedAs ed y d start k n at (ended.Agrees p) =
    (is_tag (guide_of ed) (bytes_of "UNT") k.last ≡ true)
    × ((k.intervals ≡ false)
    × ((i : ℕ) × (first_agreeing y (positions_of (segments_of y start (part start at d))) ≡ Some (agreeing_at i p))))

-- what a walk that refuses tells; that of a second one is closed where the first one came to
abbrev pub told_again : Judged → Option ℕ → Verdict × ℕ
told_again o (Some c) = (told o.verdict, c)
told_again o None = judged_as o

-- the verdict and the end of the message that begins at `start`, once its segments have been walked
abbrev pub closed_by : Edition → Syntax → List ℕ → ℕ → Result Walked Judged → Verdict × ℕ
closed_by ed y d start (Err o) = judged_as o
closed_by ed y d start (Ok w) = (ended_with ed y d start w.kept w.segments w.end, w.end)

-- 24 or accepted, for n segments up to `at` that fit
abbrev pub fitted : Edition → Kept → ℕ → ℕ → Verdict
fitted ed k n at = cond (is_tag (guide_of ed) (bytes_of "UNT") k.last) (accepts n at) (refuses 24 (suc n) at 0)

-- what a walk tells of a message, agreeing positions aside
abbrev pub told_by : Edition → Result Walked Judged → Verdict
told_by ed (Err o) = told o.verdict
told_by ed (Ok w) = fitted ed w.kept w.segments w.end

-- the segments from `start` up to `at` are those of the message that begins there, which is told v, agreeing positions aside
abbrev pub Through : Edition → Syntax → List ℕ → ℕ → ℕ → Verdict → Type 0
Through ed y d start at v =
    (segments_of y start (part start at d) ≡ held_at y d start)
    × (judge_from y (guide_of ed) (pages_of ed) 0 start fresh (held_at y d start) ≡ v)

-- where all segments fit, one more can be counted, without a doubt no position agrees with an earlier one, and they are the message's
abbrev pub Closable : Edition → Syntax → List ℕ → ℕ → Result Walked Judged → Type 0
Closable ed y d start (Err o) = Unit {0}
Closable ed y d start (Ok w) =
    (suc w.segments < 2 ^ 64)
    × ((w.kept.doubt ≡ false → NoneAgrees y d start w.end) × Through ed y d start w.end (fitted ed w.kept w.segments w.end))

-- the verdict and the end of the message that begins at `start`, by the guide of an edition
abbrev pub judged_at : Edition → Syntax → List ℕ → ℕ → Verdict × ℕ
judged_at ed y d start = (verdict_from y (guide_of ed) (pages_of ed) start (held_at y d start), last_end start (held_at y d start))

-- what the walk of that message tells which ends at the place `stop`
abbrev pub until_at : Edition → Syntax → List ℕ → ℕ → ℕ → Verdict
until_at ed y d start stop = judge_until y (guide_of ed) (pages_of ed) stop 0 start fresh (held_at y d start)
