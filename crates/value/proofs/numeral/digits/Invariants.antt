-- `value::numeral::digits` meets its contract. The loop's invariant is `Along`: what is passed and what is left make up the run.
use Rattle.std.proofs.Common.{length}
use Rattle.plain.specs.Plain.{literals_left}
use Rattle.value.proofs.Running.{Along}
use Rattle.value.proofs.numeral.digits.Given as goal

abbrev pub invariant-loop-x : goal.invariant-loop-x
invariant-loop-x l = Along (literals_left l.fn.bytes) l.value (literals_left l.bytes) l.count l.sum

abbrev pub decreases-loop-x : goal.decreases-loop-x
decreases-loop-x l = length (literals_left l.bytes)
