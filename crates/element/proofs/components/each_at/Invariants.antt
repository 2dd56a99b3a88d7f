-- `element::components::each_at` meets its contract. The loop's invariant is `Walking`: the search among what is left gives the answer.
use Prim.Native.Nat.{◌-◌}
use Rattle.element.proofs.components.Walking.{Walking}
use Rattle.element.proofs.components.each_at.Given as goal

abbrev pub invariant-loop-e : goal.invariant-loop-e
invariant-loop-e l = Walking l.d.syntax l.d.bytes.now l.start l.element l.component l.limit l.e l.c l.i

abbrev pub decreases-loop-e : goal.decreases-loop-e
decreases-loop-e l = l.limit - l.i
