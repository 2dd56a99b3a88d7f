-- `value::text::put_digits` meets its contract. The loop's invariant is `Putting`: the digits that are written, and the number that is left.
use Rattle.value.proofs.Texts.{Putting}
use Rattle.value.proofs.text.put_digits.Given as goal

abbrev pub invariant-loop-left : goal.invariant-loop-left
invariant-loop-left l = Putting l.m l.initial.out l.out l.at l.left

abbrev pub decreases-loop-left : goal.decreases-loop-left
decreases-loop-left l = l.at
