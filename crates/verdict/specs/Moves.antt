-- What demand 3 says of a verdict: "places moved by the length of what stands in front".
use Rattle.std.specs.Prelude.{ℕ, ◌+◌}
use Rattle.guide.specs.Answers.{Verdict, accepts, refuses}

-- the same verdict k places later: the byte after the message and "the place of the segment's first byte" move
unfoldable pub moved_verdict : ℕ → Verdict → Verdict
moved_verdict k (accepts n e) = accepts n (k + e)
moved_verdict k (refuses r i p n) = refuses r i (k + p) n
