-- When a delivery is refused with 2, in item 6's own terms.
use Rattle.std.specs.Prelude.{ℕ, ◌<◌, ◌≡◌, true, false, List, ◌++◌, length, get_or}
use Rattle.cut.specs.declared.service.Syntax.{Syntax}
use Rattle.bytewise.specs.Bytes.{begins}
use Rattle.cut.specs.Characters.{valid}
use Rattle.cut.specs.Segments.{breaks}
use Rattle.cut.specs.Admission.{UNA}
use Rattle.cut.specs.Used.{named, plainly}

module _ (y : Syntax) (d : List ℕ) where
  -- UNA stands behind line breaks at the start that are skipped, or at the start; u are the bytes from there on
  pub record HasUNA (u : List ℕ) : Type 0 where
    pub skipped : List ℕ
    pub same : d ≡ skipped ++ u
    pub all_skipped : breaks (plainly y) skipped ≡ true
    pub begins_UNA : begins UNA u ≡ true

  -- "one of these conditions fails, for UNA or characters handed in, or UNA has fewer than nine bytes"
  pub data Unreadable : Type 0 where
    short_UNA : (u : List ℕ) → HasUNA u → length u < 9 → Unreadable
    reserved : (u : List ℕ) → HasUNA u → (get_or u 7 0 ≡ 32 → ⊥) → Unreadable
    of_UNA : (u : List ℕ) → HasUNA u → valid (named y u) ≡ false → Unreadable
    handed_in : ((u : List ℕ) → HasUNA u → ⊥) → valid y ≡ false → Unreadable
