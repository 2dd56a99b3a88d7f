-- `plain::plain::copy_plain` meets its contract. The loop's invariant: so many bytes are copied, and the iterator has the others.
use Rattle.plain.specs.Plain.{decoded, literals_left}
use Rattle.plain.proofs.Copying.{Copying}
use Rattle.plain.proofs.plain.copy_plain.Given as goal

abbrev pub invariant-loop-x : goal.invariant-loop-x
invariant-loop-x l = Copying (decoded l.fn.d.syntax l.a l.e l.d.bytes.now) l.fn.out l.out l.n (literals_left l.x-iterator)
