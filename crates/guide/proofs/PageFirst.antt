-- A segment has the fault n exactly if n is the number of its first fault from left to right.
use Prim.Native.Nat.{ℕ, zero, suc}
use mathlib.Core.Path.{◌≡◌, refl}
use mathlib.Core.List.{List}
use mathlib.Core.Logic.{◌↔◌}
use Rattle.cut.specs.declared.service.Syntax.{Syntax}
use Rattle.guide.specs.Page.{Page}
use Rattle.guide.specs.FirstFault.{First}
use Rattle.guide.specs.workers.PageFault.{page_fault}
use Rattle.guide.proofs.pages.Leftmost.{fault-first, first-fault}

pub first_iff : (y : Syntax) (page : Page) (s : List ℕ) (n : ℕ) → (n ≡ 0 → ⊥) → (page_fault y page s ≡ n) ↔ First y page s n
first_iff y page s zero h = absurd (h refl)
first_iff y page s (suc n) h = (fault-first y page s n, first-fault y page s n)
