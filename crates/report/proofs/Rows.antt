-- Where the prices stand that a call wrote: within the row.
use Prim.Native.Nat.{ℕ, ◌*◌, ◌/◌, ◌≤◌}
use mathlib.Core.Path.{◌≡◌, refl, sym, ap, ◌∙◌}
use mathlib.Core.List.{List, [], ◌∷◌}
use native.Mathlib.Omega.{arith}
use lib.IntN.{ℤ}
use lib.ListN.{length, drop, length-take, length-drop, length-append}
use Rattle.cut.specs.declared.service.Syntax.{Syntax}
use Rattle.messages.specs.Messages.{start_of}
use Rattle.price.specs.declared.numbers.Numbers.{Numbers}
use Rattle.price.specs.Rows.{all_numbers, fitting, filled_row}
use Rattle.price.specs.Calls.{numbers_from, filled_of, row_after}
use Rattle.price.specs.declared.filling.Filled.{Filled}
use Rattle.std.specs.Prelude.{Result, Ok, Err}
use Rattle.schaumtruhe.specs.Calls.{Sheet, stands, missing, sheet_at, listed, priced_by, row_by, priced_at, row_at}

-- as many prices as fit whole
fitting-fits : (row : List ℤ) (ps : List Numbers) → length (fitting row ps) * 8 ≤ length row
unfolding fitting
fitting-fits row ps = omega (arith, length-take (length row / 8) ps)

all-length : (ps : List Numbers) → length (all_numbers ps) ≡ length ps * 8
unfolding all_numbers
all-length [] = refl
all-length (p ∷ ps) = omega (arith, all-length ps)

filled-length : (ps : List Numbers) (row : List ℤ) → length (filled_row ps row) ≡ length row
unfolding filled_row
filled-length ps row =
    let a = length-append (all_numbers (fitting row ps)) (drop (length (fitting row ps) * 8) row) in
    let b = all-length (fitting row ps) in
    let c = length-drop (length (fitting row ps) * 8) row in
    let f = fitting-fits row ps in
    omega arith

abbrev written_in : Result Filled ℕ → ℕ
written_in (Ok f) = f.written
written_in (Err n) = 0

module _ (y : Syntax) (k : ℕ) (row : List ℤ) where
  written-by : (s : Sheet) (w t : ℕ) → priced_by y s k row ≡ Ok (record { written = w; total = t }) → w * 8 ≤ length row
  unfolding filled_of
  written-by (stands m) w t h =
      let e : w ≡ length (fitting row (numbers_from y (start_of m) k (listed y m))) = sym (ap written_in h) in
      omega (arith, e, fitting-fits row (numbers_from y (start_of m) k (listed y m)))
  written-by (missing n) w t h =
      let z : ◌≡◌ {A = ℕ} 0 1 = cc in
      absurd (omega arith)

  length-by : (s : Sheet) → length (row_by y s k row) ≡ length row
  unfolding row_after
  length-by (stands m) = filled-length (numbers_from y (start_of m) k (listed y m)) row
  length-by (missing n) = refl

  -- r and out are what the call answers and leaves in the row
  pub written_lies
      : (d : List ℕ) (at : ℕ) (r : Result Filled ℕ) (out : List ℤ) (w t : ℕ) → r ≡ priced_at y d at k row → out ≡ row_at y d at k row
      → r ≡ Ok (record { written = w; total = t }) → w * 8 ≤ length out
  unfolding priced_at row_at
  written_lies d at r out w t h e n =
      let f = written-by (sheet_at y d at) w t (sym h ∙ n) in
      let l = ap length e ∙ length-by (sheet_at y d at) in
      omega arith
