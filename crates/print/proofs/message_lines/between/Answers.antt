-- `print::message_lines::between` meets its contract.
use mathlib.Core.Path.{refl, sym, ap, ◌∙◌}
use native.Mathlib.Omega.{arith}
use Rattle.std.specs.Prelude.{Some}
use lib.ListN.{length}
use Rattle.print.proofs.Sounds.{wrote_same}
use Rattle.print.proofs.Walking.{none-left-over, outside-passed, outside-some, outside-few, outside-sound}
use Rattle.print.proofs.message_lines.between.Goals as goal

pub loop-d-init : goal.loop-d-init
loop-d-init c = (refl, refl, c.requires.1)

pub message-requires : goal.message-requires
message-requires c =
    let inv = c.loop-d.invariant in
    let l = ap length inv.0 in
    let h = sym c.in-Some-Message.ensures ∙ ap Some c.in-Some-Message.field-0-is in
    (omega (arith, l, c.requires.0), inv.2, h)

pub shape_of-out-in-Some-Message : goal.shape_of-out-in-Some-Message
shape_of-out-in-Some-Message c = c.message.auto.out ∙ ap length c.loop-d.invariant.0

pub returns-in-Some-Message : goal.returns-in-Some-Message
returns-in-Some-Message c =
    let inv = c.loop-d.invariant in
    wrote_same _ _ _ _ _ _ _ inv.1 inv.0 c.message.ensures

pub overflow_add-outside : goal.overflow_add-outside
overflow_add-outside c =
    let inv = c.loop-d.invariant in
    let l = outside-few _ _ _ _ (sym c.in-Some-Segment.ensures ∙ ap Some c.in-Some-Segment.field-0-is) inv.2 in
    record { fits = omega (arith, l) }

pub loop-d-smaller : goal.loop-d-smaller
loop-d-smaller c =
    let l =
    outside-some _ _ (record { at = c.loop-d.at; messages = 0; accepted = 0; outside = 0 }) _
    (sym c.in-Some-Segment.ensures ∙ ap Some c.in-Some-Segment.field-0-is) in
    omega (arith, l.0, l.1)

pub loop-d-preserved : goal.loop-d-preserved
loop-d-preserved c =
    let inv = c.loop-d.invariant in
    let h = sym c.in-Some-Segment.ensures ∙ ap Some c.in-Some-Segment.field-0-is in
    (inv.0, outside-passed _ _ _ _ h ∙ inv.1, outside-sound _ _ _ _ h inv.2)

pub last-requires : goal.last-requires
last-requires c =
    let inv = c.loop-d.invariant in
    let l = ap length inv.0 in
    (omega (arith, l, c.requires.0), inv.2)

pub shape_of-out-in-None : goal.shape_of-out-in-None
shape_of-out-in-None c = c.last.auto.out ∙ ap length c.loop-d.invariant.0

pub returns-in-None : goal.returns-in-None
returns-in-None c =
    let inv = c.loop-d.invariant in
    let h = sym c.in-None.ensures in
    wrote_same _ _ _ _ _ _ _ (none-left-over _ _ _ h ∙ inv.1) inv.0 c.last.ensures
