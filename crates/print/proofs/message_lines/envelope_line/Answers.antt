-- `print::message_lines::envelope_line` meets its contract.
use Prim.Native.Nat.{ℕ}
use mathlib.Core.Path.{sym, ap, ◌∙◌}
use Rattle.envelope.specs.Envelope.{Refused, enveloped}
use Rattle.print.proofs.Walking.{complete-line, broken-line}
use Rattle.print.proofs.message_lines.envelope_line.Goals as goal

pub returns-in-Ok : goal.returns-in-Ok
returns-in-Ok c =
    let each = complete-line _ _ _ _ (ap enveloped c.in-Ok.is) (c.put_line.ensures.value, c.put_line.ensures.out_after) in
    record { value = each.0; out_after = each.1 }

pub returns-in-Err : goal.returns-in-Err
returns-in-Err c =
    let is = ap enveloped c.in-Err.is ∙ ap (λ (n : ℕ). Refused n c.in-Err.e.place) (sym c.from.ensures) in
    let each = broken-line _ _ _ _ _ _ is (c.put_line-in-Err.ensures.value, c.put_line-in-Err.ensures.out_after) in
    record { value = each.0; out_after = each.1 }
