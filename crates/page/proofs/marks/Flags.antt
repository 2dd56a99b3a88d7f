-- The marks between two components, flagged word by word.
use Prim.Native.Nat.{ℕ, ◌≤◌}
use mathlib.Core.Path.{◌≡◌}
use mathlib.Core.Bool.{Bool}
use mathlib.Core.List.{List}
use lib.ListN.{length}
use Rattle.element.specs.workers.Scans.{Scanned, fresh}
use Rattle.element.specs.declared.ahead.Scan.{Scan}
use Rattle.element.proofs.MarkFace.{scan_none}

-- nothing is tested behind the place a
pub scan_begins : (t : ℕ → Bool) (d : List ℕ) (a : ℕ) → a ≤ length d → (s : Scan) → s ≡ fresh a → Scanned t d s
scan_begins t d a h s e = rw e (scan_none t d (length d) a h)
