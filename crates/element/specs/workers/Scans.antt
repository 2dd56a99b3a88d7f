-- What is known of a segment's bytes between two components, where words of eight bytes are tested at once and each word once: what a scan
-- promises, here and in the quick pass of the page check.
use Rattle.std.specs.Prelude.{ℕ, ◌+◌, ◌-◌, ◌≤◌, ◌<◌, ◌≡◌, Bool, true, false, ◌&&◌, List, length, get_or, leb}
use Rattle.bytewise.specs.Eights.{flags}
use Rattle.element.specs.declared.ahead.Scan.{Scan}

-- whether byte k of the word that ends before the place next passes the test t and is not before the place a
unfoldable pub waiting : (ℕ → Bool) → List ℕ → ℕ → ℕ → ℕ → Bool
waiting t d a next k = leb (a + 8) (next + k) && t (get_or d (next + k - 8) 0)

-- the bytes from the place a up to the place next are tested: left flags those of the last eight of them that pass the test, and before those there is none
pub record Tested (t : ℕ → Bool) (d : List ℕ) (bound a next left : ℕ) : Type 0 where
  pub ahead : a ≤ next
  pub within : next ≤ bound
  pub passed : (k : ℕ) → a ≤ k → k + 8 < next → t (get_or d k 0) ≡ false
  pub flagged : left ≡ flags (waiting t d a next)

-- r is the place of the first byte from the place a on that passes the test
pub record Foremost (t : ℕ → Bool) (d : List ℕ) (a r : ℕ) : Type 0 where
  pub onward : a ≤ r
  pub none : (k : ℕ) → a ≤ k → k < r → t (get_or d k 0) ≡ false
  pub here : t (get_or d r 0) ≡ true

-- nothing is tested from the place a on
abbrev pub fresh : ℕ → Scan
fresh a = record { at = a; next = a; left = 0 }

-- the bytes are tested as the scan s says
abbrev pub Scanned : (ℕ → Bool) → List ℕ → Scan → Type 0
Scanned t d s = Tested t d (length d) s.at s.next s.left

-- r is the scan behind the first byte from the place a on that passes the test
pub record Sought (t : ℕ → Bool) (d : List ℕ) (a : ℕ) (r : Scan) : Type 0 where
  pub onward : a < r.at
  pub first : Foremost t d a (r.at - 1)
  pub scanned : Scanned t d r
