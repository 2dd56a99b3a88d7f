-- Where a component ends, and what stands there.
use Prim.Native.Nat.{ℕ, suc, ◌+◌, ◌-◌, ◌≤◌, ◌<◌}
use mathlib.Core.Path.{◌≡◌, refl, sym, ap, ◌∙◌}
use mathlib.Core.Bool.{false}
use mathlib.Core.List.{List}
use native.Mathlib.Omega.{arith}
use lib.ListN.{length, get_or}
use Rattle.bytewise.specs.Bytes.{part}
use Rattle.cut.specs.declared.service.Syntax.{Syntax}
use Rattle.bytewise.proofs.Parts.{part_at, length_part}
use Rattle.element.specs.Elements.{Split, split_from, component}
use Rattle.bytewise.proofs.Limits.{drop-part, take_part}
use Rattle.element.proofs.scan.Scanning.{first-component}
use Rattle.element.proofs.scan.Splits.{first-take, first_fits, Last, last-all, Stop, stop-at}

-- what stands from the place a on, up to the place e
abbrev pub from : Syntax → List ℕ → ℕ → ℕ → Split
from y d a e = split_from y false (part a e d)

-- the first component from a on ends at the place stop: at e, or at a byte that ends it
pub record Ended (y : Syntax) (d : List ℕ) (a e stop : ℕ) : Type 0 where
  pub ends : stop ≡ a + length (from y d a e).bytes
  pub within : stop ≤ e
  pub bytes : (from y d a e).bytes ≡ part a stop d
  pub last : e ≤ stop → Last (from y d a e)
  pub more : stop < e → Stop y (from y d a e) (get_or d stop 0) (part (stop + 1) e d)

module _ (y : Syntax) (d : List ℕ) (a e stop : ℕ) (ahead : a ≤ e) (fits : e ≤ length d) (s : stop ≡ a + length (component y (part a e d) 0 0)) where
  ends_at : stop ≡ a + length (from y d a e).bytes
  ends_at = s ∙ ap (λ (l : List ℕ). a + length l) (first-component y (part a e d))

  width : length (part a e d) ≡ e - a
  width = length_part d a e fits

  short : length (from y d a e).bytes ≤ e - a
  short = rw width at (first_fits y false (part a e d))

  bytes-part : (from y d a e).bytes ≡ part a stop d
  bytes-part =
      first-take y false (part a e d)
      ∙ take_part d a e (length (from y d a e).bytes) short
      ∙ ap (λ (m : ℕ). part a m d) (sym ends_at)

  at_last : e ≤ stop → Last (from y d a e)
  at_last h =
      let n = ends_at in
      let f = short in
      let w = width in
      last-all y false (part a e d) (omega arith)

  at_more : stop < e → Stop y (from y d a e) (get_or d stop 0) (part (stop + 1) e d)
  at_more h =
      let q = ends_at in
      let w = width in
      let n : length (from y d a e).bytes < e - a = omega arith in
      let z : a + suc (length (from y d a e).bytes) ≡ stop + 1 = omega arith in
      let r = stop-at y false (part a e d) (length (from y d a e).bytes) refl (omega arith) in
      rw (part_at d a e (length (from y d a e).bytes) n, ← q, drop-part d a e (suc (length (from y d a e).bytes)) ahead fits, z) at r

  pub ended : Ended y d a e stop
  ended =
      let f = short in
      let n = ends_at in
      record { ends = ends_at; within = omega arith; bytes = bytes-part; last = at_last; more = at_more }
