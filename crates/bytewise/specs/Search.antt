-- The first byte that passes a test.
use Rattle.std.specs.Prelude.{ℕ, ◌≤◌, ◌<◌, ◌≡◌, min, Bool, true, false, List, get_or}

-- r is the first place from `from` on, before `limit`, whose byte passes the test; `limit`, if there is none
pub record FirstThat (test : ℕ → Bool) (d : List ℕ) (from limit r : ℕ) : Type 0 where
  pub onward : min from limit ≤ r
  pub within : r ≤ limit
  pub before : (k : ℕ) → from ≤ k → k < r → test (get_or d k 0) ≡ false
  pub passes : r < limit → test (get_or d r 0) ≡ true
