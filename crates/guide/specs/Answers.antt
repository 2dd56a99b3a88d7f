-- What can be said of a segment after those before it, and of a message.
use Rattle.std.specs.Prelude.{ℕ}

-- the row of the segment's node, or a refusal with its number and the row of the node that is named; 0 for none
pub data Answer : Type 0 where
  placed : ℕ → Answer
  refused : ℕ → ℕ → Answer

-- accepted with the count of its segments and the byte after it; or refused with number, segment, place and node
pub data Verdict : Type 0 where
  accepts : ℕ → ℕ → Verdict
  refuses : ℕ → ℕ → ℕ → ℕ → Verdict
