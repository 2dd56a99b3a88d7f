-- `print::rows::put_plain` meets its contract. The loop's invariant: `Pouring`.
use Rattle.print.proofs.Pouring.{Pouring}
use Rattle.print.proofs.rows.put_plain.Given as goal

abbrev pub invariant-loop-n : goal.invariant-loop-n
invariant-loop-n l = Pouring l.d.syntax l.d.bytes.now l.from l.to l.end l.stop l.initial.out l.out l.i l.n
