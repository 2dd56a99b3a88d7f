-- The table of the articles that came in a message. Nothing else is promised of it: how a table holds articles is its own affair.
use Rattle.std.specs.Prelude.{ℕ, ◌≡◌, Bool, true, List, length}
use Rattle.sieve.specs.workers.Came.{may_have}

-- the article x is noted in the table t, which becomes t', and the answer is r: whether x may have come before; what may have come may still have come
pub record Noted (t t' x : List ℕ) (r : Bool) : Type 0 where
  pub size : length t' ≡ length t
  pub asked : r ≡ may_have t x
  pub comes : length t ≡ 256 → may_have t' x ≡ true
  pub keeps : length t ≡ 256 → (z : List ℕ) → may_have t z ≡ true → may_have t' z ≡ true
