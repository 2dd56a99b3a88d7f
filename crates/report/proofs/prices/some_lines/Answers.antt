-- `report::prices::some_lines` is safe, and only the prices that were written become lines: they lie within the row.
use mathlib.Core.Path.{refl}
use native.Mathlib.Omega.{arith}
use lib.IntN.{ℤ}
use lib.ListN.{length-take}
use Rattle.report.proofs.Rows.{written_lies}
use Rattle.report.proofs.prices.some_lines.Goals as goal

pub overflow_mul-row : goal.overflow_mul-row
overflow_mul-row g c =
    let w = written_lies _ _ _ _ _ _ _ _ _ c.in_ok-filled.ensures.value c.in_ok-filled.ensures.row_after refl in
    omega (arith, w)

pub slice_bounds-row-end : goal.slice_bounds-row-end
slice_bounds-row-end g c =
    let w = written_lies _ _ _ _ _ _ _ _ _ c.in_ok-filled.ensures.value c.in_ok-filled.ensures.row_after refl in
    omega (arith, w)

pub slice_bounds-row_lines-end : goal.slice_bounds-row_lines-end
slice_bounds-row_lines-end g c =
    let w = written_lies _ _ _ _ _ _ _ _ _ c.in_ok-filled.ensures.value c.in_ok-filled.ensures.row_after refl in
    omega (arith, length-take {A = ℤ}, w)

pub row_lines-requires : goal.row_lines-requires
row_lines-requires g c =
    let w = written_lies _ _ _ _ _ _ _ _ _ c.in_ok-filled.ensures.value c.in_ok-filled.ensures.row_after refl in
    omega (arith, length-take {A = ℤ}, w)
