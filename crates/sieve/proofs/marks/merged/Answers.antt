-- `sieve::marks::merged` meets its contract.
use borrow.Author.Tests.{eq-eqb, ne_eqb}
use Rattle.sieve.specs.workers.Marks.{merged_by}
use Rattle.sieve.proofs.Marking.{merged_several}
use Rattle.sieve.proofs.marks.merged.Goals as goal

pub returns-then-v-eq0 : goal.returns-then-v-eq0
unfolding merged_by
returns-then-v-eq0 c = rw (eq-eqb _ _ c.if-v-eq0.true)

pub returns-then-v-m : goal.returns-then-v-m
unfolding merged_by
returns-then-v-m c = rw (ne_eqb _ _ c.if-v-eq0.false, eq-eqb _ _ c.if-v-m.true)

pub returns : goal.returns
returns c = merged_several _ _ c.if-v-eq0.false c.if-v-m.false
