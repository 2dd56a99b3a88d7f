-- `cut::scan::cut_from` meets its contract: the answer from the start is the answer for the open segment, seen from the byte that is read next.
use mathlib.Core.Path.{sym, ◌∙◌}
use native.Mathlib.Omega.{arith}
use Rattle.cut.proofs.cutting.Scanning.{cut_none, cut_open, open_end, open_out, open_marked, marked-first, onward-behind, onward-entered}
use Rattle.cut.proofs.scan.cut_from.Goals as goal

pub returns-then-d-at : goal.returns-then-d-at
returns-then-d-at c = sym (cut_none _ _ _ _ c.if-d-at.true)

pub loop-marks-init : goal.loop-marks-init
loop-marks-init c =
    let q = onward-entered c.args.d.syntax c.args.d.bytes.now c.args.at c.args.released c.from.result c.from.ensures c.if-d-at.false in
    cut_open _ _ _ _ c.if-d-at.false ∙ q.seen _

pub returns-then-d-k : goal.returns-then-d-k
returns-then-d-k c =
    sym
    (c.loop-marks.invariant ∙ (marked-first _ _ _ _ c.first_that-k.ensures).passed.seen _
    ∙ open_out _ _ _ _ c.if-d-k.true)

pub returns-then-d-k-2 : goal.returns-then-d-k-2
returns-then-d-k-2 c =
    sym
    (c.loop-marks.invariant ∙ (marked-first _ _ _ _ c.first_that-k.ensures).passed.seen _
    ∙ open_end _ _ _ _ c.if-d-k.false c.if-d-k-2.true)

pub loop-marks-smaller : goal.loop-marks-smaller
loop-marks-smaller c =
    let m = (marked-first _ _ _ _ c.first_that-k.ensures).passed.onward in
    omega arith

pub loop-marks-preserved : goal.loop-marks-preserved
loop-marks-preserved c =
    let q = onward-behind c.args.d.syntax c.args.d.bytes.now c.first_that-k.result c.if-d-k.false in
    c.loop-marks.invariant ∙ open_marked _ _ _ _ _ _ (marked-first _ _ _ _ c.first_that-k.ensures) c.if-d-k.false c.if-d-k-2.false q
