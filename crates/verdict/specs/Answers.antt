-- The verdict that an answer tells, and document 01's numbers for each case.
use Rattle.std.specs.Prelude.{ℕ, List, [], ◌∷◌, Result, Ok, Err}
use Rattle.guide.specs.Answers.{accepts, refuses, Verdict}
use Rattle.guide.specs.Reasons.{number_of_reason}
use Rattle.verdict.specs.declared.answers.Judged.{Judged}
use Rattle.verdict.specs.declared.answers.Accepted.{Accepted}
use Rattle.verdict.specs.declared.answers.Refused.{Refused}

-- "accepted" with the count of its segments and the byte after it; refused: "number, segment, the place of the segment's first byte, node"
abbrev pub told : Result Accepted Refused → Verdict
told (Ok a) = accepts a.segments a.end
told (Err r) = refuses (number_of_reason r.reason) r.segment r.place r.node

-- that verdict with the end of its message
abbrev pub judged_as : Judged → Verdict × ℕ
judged_as j = (told j.verdict, j.end)

-- "verdict segment place node; an accepted one has verdict 0, its count of segments, the byte after it, 0"
unfoldable pub numbers_of : Verdict → List ℕ
numbers_of (accepts n e) = 0 ∷ n ∷ e ∷ 0 ∷ []
numbers_of (refuses k i p n) = k ∷ i ∷ p ∷ n ∷ []
