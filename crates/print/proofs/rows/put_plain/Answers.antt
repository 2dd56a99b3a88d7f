-- `print::rows::put_plain` meets its contract. The loop's invariant: `Pouring`.
use native.Mathlib.Omega.{arith}
use Rattle.print.proofs.Pouring.{pouring_first, pouring_length, pouring_all, pouring_whole, pouring_full, pouring_on}
use Rattle.print.proofs.rows.put_plain.Goals as goal

pub loop-n-init : goal.loop-n-init
loop-n-init c = pouring_first _ _ _ _ _ _ _ c.limit_of-end.ensures

pub shape_of-out-then-end-at : goal.shape_of-out-then-end-at
shape_of-out-then-end-at c = pouring_length _ _ _ _ _ _ _ c.limit_of-end.ensures _ _ _ c.loop-n.invariant

pub returns-then-end-at : goal.returns-then-end-at
returns-then-end-at c =
    pouring_all _ _ _ _ _ _ _ c.limit_of-end.ensures _ _ _ c.loop-n.invariant _ c.literal-at.ensures c.if-end-at.true

pub bounds-out-n : goal.bounds-out-n
bounds-out-n c =
    let l = pouring_length _ _ _ _ _ _ _ c.limit_of-end.ensures _ _ _ c.loop-n.invariant in
    omega (arith, l)

pub loop-n-preserved : goal.loop-n-preserved
loop-n-preserved c =
    pouring_on _ _ _ _ _ _ _ c.limit_of-end.ensures _ _ _ c.loop-n.invariant _ c.literal-at.ensures c.if-end-at.false c.loop-n-test.true

pub shape_of-out-then-end-rest : goal.shape_of-out-then-end-rest
shape_of-out-then-end-rest c = pouring_length _ _ _ _ _ _ _ c.limit_of-end.ensures _ _ _ c.loop-n.invariant

pub returns-then-end-rest : goal.returns-then-end-rest
returns-then-end-rest c =
    pouring_whole _ _ _ _ _ _ _ c.limit_of-end.ensures _ _ _ c.loop-n.invariant _ c.literal-rest.ensures c.loop-n-test.false (omega arith)

pub shape_of-out : goal.shape_of-out
shape_of-out c = pouring_length _ _ _ _ _ _ _ c.limit_of-end.ensures _ _ _ c.loop-n.invariant

pub returns : goal.returns
returns c =
    pouring_full _ _ _ _ _ _ _ c.limit_of-end.ensures _ _ _ c.loop-n.invariant _ c.literal-rest.ensures c.loop-n-test.false (omega arith)
