-- A segment has no fault exactly if its page holds.
use Prim.Native.Nat.{ℕ, zero, suc, ◌≤◌}
use mathlib.Core.Path.{◌≡◌}
use mathlib.Core.List.{List}
use mathlib.Core.Logic.{◌↔◌}
use native.Mathlib.Omega.{arith}
use Rattle.cut.specs.declared.service.Syntax.{Syntax}
use Rattle.guide.specs.Page.{Page}
use Rattle.guide.specs.Content.{Sound, Holds}
use Rattle.guide.specs.workers.PageFault.{page_fault}
use Rattle.guide.proofs.pages.Scanned.{scan_none, none_scan}
use Rattle.guide.proofs.pages.Scan.{page_scan, element-sound, sound-element}

pub holds_iff : (y : Syntax) (page : Page) (s : List ℕ) → (page_fault y page s ≡ 0) ↔ Holds y page s
unfolding Holds
holds_iff y page s = (sound, calm)
  where
    sound : page_fault y page s ≡ 0 → (e c : ℕ) → 1 ≤ e → Sound y page s e c
    sound h zero c l = absurd (omega arith)
    sound h (suc i) c l = element-sound y page s (suc i) (scan_none (page_scan y page s) h i) c

    calm : ((e c : ℕ) → 1 ≤ e → Sound y page s e c) → page_fault y page s ≡ 0
    calm h = none_scan (page_scan y page s) (λ i. sound-element y page s (suc i) (λ c. h (suc i) c (omega arith)))
