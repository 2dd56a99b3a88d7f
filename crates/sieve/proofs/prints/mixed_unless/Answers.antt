-- `sieve::prints::mixed_unless` meets its contract.
use mathlib.Core.Logic.{inl, inr}
use Rattle.sieve.specs.workers.Prints.{mixed_unless}
use Rattle.sieve.proofs.prints.mixed_unless.Goals as goal

pub returns-then-mark : goal.returns-then-mark
unfolding mixed_unless
returns-then-mark c = elim c.if-mark.either [ inl h ↦ rw h | inr h ↦ rw (h.0, h.1) ]

pub returns-else-mark : goal.returns-else-mark
unfolding mixed_unless
returns-else-mark c = rw (c.if-mark.false.0, c.if-mark.false.1) c.mixed.ensures
