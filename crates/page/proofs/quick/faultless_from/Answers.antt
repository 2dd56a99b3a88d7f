-- `page::quick::faultless_from` meets its contract. The loop's invariant: the bytes before the component that comes next are passed, and against each page
-- the pass stands before the spot of the state.
use Prim.Native.Nat.{ℕ, ◌+◌, ◌/◌, ◌<◌}
use mathlib.Core.Bool.{true, false}
use mathlib.Core.Path.{◌≡◌, refl, sym, ap, subst, ◌∙◌}
use native.Mathlib.Omega.{arith}
use lib.ListN.{length, get_or}
use Rattle.plain.specs.Plain.{decoded}
use Rattle.guide.specs.workers.PageFault.{text_fault}
use Rattle.page.specs.workers.Cells.{steps_of, may_end, next_of}
use Rattle.page.specs.workers.Words.{free_row}
use Rattle.page.specs.workers.Marks.{CleanAhead}
use Rattle.page.specs.workers.Quick.{Begun}
use Rattle.element.specs.declared.ahead.Scan.{Scan}
use Rattle.page.proofs.cells.Fields.{service-last, service-next}
use Rattle.page.proofs.quick.Start.{begun-room}
use Rattle.page.proofs.quick.Loop.{walk_begins, pages_begin, here-counted, walk_on, pages_on, faultless_here}
use Rattle.guide.proofs.Options.{told_unless_0}
use Rattle.page.proofs.quick.faultless_from.Goals as goal
use Rattle.page.proofs.quick.faultless_from.Goals.{then-p-gt0+else-not-is_right, else-p-gt0}

pub is_begun-requires : goal.is_begun-requires
is_begun-requires c = c.requires

pub overflow_add-start : goal.overflow_add-start
overflow_add-start c =
    let begun : let a = c.args in Begun a.d.syntax a.d.bytes.now a.start =
    c.is_begun.ensures c.if-not-is_begun.false in
    let b : c.args.start + 3 < length c.args.d.bytes.now = begun-room c.args.d.syntax c.args.d.bytes.now c.args.start (begun) in
    let good = c.well_formed in
    omega arith

pub loop-p-init : goal.loop-p-init
loop-p-init c =
    let begun : let a = c.args in Begun a.d.syntax a.d.bytes.now a.start =
    c.is_begun.ensures c.if-not-is_begun.false in
    let b = begun in
    (b, walk_begins _ _ _ b _ c.untested-scan.ensures, pages_begin _ _ _ b _ _ c.nowhere-places.ensures _ (ap (λ (k : Scan). k.at) c.untested-scan.ensures))

pub is_right-requires : goal.is_right-requires
is_right-requires c =
    let told : let a = c.args in CleanAhead a.d.syntax a.d.bytes.now c.loop-p.scan.at c.in_ok-p.p =
    c.in_ok-p.ensures in
    let k = told in
    let n = k.inside in
    (k.ahead, omega (arith, n), c.if-p-gt0.true)

pub bounds-d-end : goal.bounds-d-end
bounds-d-end c =
    let told : let a = c.args in CleanAhead a.d.syntax a.d.bytes.now c.loop-p.scan.at c.in_ok-p.p =
    c.in_ok-p.ensures in
    (told).inside

pub overflow_add-result : goal.overflow_add-result
overflow_add-result c =
    let told : let a = c.args in CleanAhead a.d.syntax a.d.bytes.now c.loop-p.scan.at c.in_ok-p.p =
    c.in_ok-p.ensures in
    let k = (told).inside in
    let good = c.well_formed in
    omega arith

pub returns-then-may_end : goal.returns-then-may_end
returns-then-may_end c =
    -- a component that is not empty has no fault on its row
    let checked
    : c.in_ok-p.p.length ≡ length (decoded c.args.d.syntax c.loop-p.scan.at c.in_ok-p.p.end c.args.d.bytes.now)
    → 0 < c.in_ok-p.p.length
    → text_fault c.args.d.syntax false (free_row (c.cell-w.result / 0x4_0000_0000))
    (decoded c.args.d.syntax c.loop-p.scan.at c.in_ok-p.p.end c.args.d.bytes.now) ≡ 0 =
    λ n h. elim c.if-p-gt0.branch [
      | then-p-gt0+else-not-is_right w ↦ w.is_right.ensures w.if-not-is_right.false n
      | else-p-gt0 w ↦ absurd (omega arith)
    ] in
    let told : let a = c.args in CleanAhead a.d.syntax a.d.bytes.now c.loop-p.scan.at c.in_ok-p.p =
    c.in_ok-p.ensures in
    λ page f.
    let l = c.loop-p in
    let e = service-last _ _ c.if-x-d.true in
    faultless_here _ _ _ l.invariant.0 _ _ _ l.invariant.1 _ (told) e _ refl _ _ _ l.invariant.2 _ (ap (λ (i : ℕ). i / 0x4_0000_0000) c.cell-w.ensures)
    (checked (here-counted _ _ _ l.invariant.0 _ _ _ l.invariant.1 _ (told) e)) _ c.keep-places.ensures c.if-x-d.true
    (subst (λ (i : ℕ). may_end i c.in_ok-p.p.length ≡ true) c.cell-w.ensures (sym c.may_end.ensures ∙ c.if-may_end.true)) _ refl page f

pub loop-p-smaller : goal.loop-p-smaller
loop-p-smaller c =
    let told : let a = c.args in CleanAhead a.d.syntax a.d.bytes.now c.loop-p.scan.at c.in_ok-p.p =
    c.in_ok-p.ensures in
    let k = told in
    omega (arith, k.ahead, k.inside, k.onward)

pub loop-p-preserved : goal.loop-p-preserved
loop-p-preserved c =
    -- a component that is not empty has no fault on its row
    let checked
    : c.in_ok-p.p.length ≡ length (decoded c.args.d.syntax c.loop-p.scan.at c.in_ok-p.p.end c.args.d.bytes.now)
    → 0 < c.in_ok-p.p.length
    → text_fault c.args.d.syntax false (free_row (c.cell-w.result / 0x4_0000_0000))
    (decoded c.args.d.syntax c.loop-p.scan.at c.in_ok-p.p.end c.args.d.bytes.now) ≡ 0 =
    λ n h. elim c.if-p-gt0.branch [
      | then-p-gt0+else-not-is_right w ↦ w.is_right.ensures w.if-not-is_right.false n
      | else-p-gt0 w ↦ absurd (omega arith)
    ] in
    let told : let a = c.args in CleanAhead a.d.syntax a.d.bytes.now c.loop-p.scan.at c.in_ok-p.p =
    c.in_ok-p.ensures in
    let l = c.loop-p in
    let a = c.args in
    let x = get_or a.d.bytes.now c.in_ok-p.p.end 0 in
    let n = c.if-x-d.false in
    let t = told_unless_0 _ _ c.in_ok-s.ensures in
    let z = t.1 in
    let b = t.0 ∙ ap (next_of a.d.syntax x) c.steps.ensures in
    let e = service-next _ _ n _ _ b z in (
      l.invariant.0,
      walk_on _ _ _ l.invariant.0 _ _ _ l.invariant.1 _ (told) e _ refl n _ _ b z,
      pages_on _ _ _ l.invariant.0 _ _ _ l.invariant.1 _ (told) e _ refl _ _ _ l.invariant.2 _ (ap (λ (i : ℕ). i / 0x4_0000_0000) c.cell-w.ensures)
          (checked (here-counted _ _ _ l.invariant.0 _ _ _ l.invariant.1 _ (told) e)) _ c.keep-places.ensures n _
          (b ∙ ap (λ (i : ℕ). next_of a.d.syntax x (steps_of i c.in_ok-p.p.length)) c.cell-w.ensures) z,
    )
