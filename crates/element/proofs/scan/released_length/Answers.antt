-- `element::scan::released_length` meets its contract. The loop's invariant: the end seen from here is the end of the component. Assumes nothing.
use mathlib.Core.Bool.{not}
use mathlib.Core.Path.{◌≡◌, sym, ap, ◌∙◌}
use native.Mathlib.Omega.{arith}
use lib.ListN.{length}
use Rattle.std.specs.Prelude.{is_some}
use Rattle.element.proofs.scan.Endings.{stays-is}
use Rattle.element.proofs.scan.Scanning.{end-first, end_past, end_here, end_next}
use Rattle.element.proofs.scan.released_length.Goals as goal

pub loop-i-init : goal.loop-i-init
loop-i-init c = end-first _ _

pub returns-then-is_some : goal.returns-then-is_some
returns-then-is_some c =
    sym (end_here _ _ _ _ _ (omega arith) (omega arith) (stays-is _ _ (c.is_some.ensures ∙ ap is_some c.ending_of.ensures) ∙ ap not c.if-is_some.true))
    ∙ c.loop-i.invariant

pub loop-i-preserved : goal.loop-i-preserved
loop-i-preserved c =
    sym (end_next _ _ _ _ _ _ (omega arith) (omega arith) (stays-is _ _ (c.is_some.ensures ∙ ap is_some c.ending_of.ensures) ∙ ap not c.if-is_some.false)
    c.frees_next-released.ensures)
    ∙ c.loop-i.invariant

pub returns : goal.returns
returns c =
    let e : length c.args.bytes.now ≡ c.loop-i.i = omega arith in
    e ∙ sym (end_past _ _ _ _ _ (omega arith)) ∙ c.loop-i.invariant
