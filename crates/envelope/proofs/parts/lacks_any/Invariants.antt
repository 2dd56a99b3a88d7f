-- `envelope::parts::lacks_any` meets its contract. The loop's invariant: what is left decides.
use Rattle.std.proofs.Common.{◌≡◌}
use Rattle.envelope.specs.Required.{in_UNB}
use Rattle.envelope.specs.Envelope.{lacks}
use Rattle.envelope.specs.workers.Rows.{whole_in}
use Rattle.envelope.proofs.rows.Texts.{lacks_from}
use Rattle.envelope.proofs.parts.lacks_any.Given as goal

abbrev pub invariant-loop-element : goal.invariant-loop-element
invariant-loop-element l =
    lacks_from l.d.syntax (whole_in l.d.bytes.now l.a l.e) l.element-index ≡ lacks l.d.syntax (whole_in l.d.bytes.now l.a l.e) in_UNB
