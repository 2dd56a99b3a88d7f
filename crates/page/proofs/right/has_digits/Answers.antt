-- `page::right::has_digits` meets its contract, one test after the other.
use borrow.Author.Tests.{le-leb, eq-eqb, ne_eqb}
use Rattle.page.proofs.right.Right.{nonzero}
use Rattle.page.proofs.right.has_digits.Goals as goal

pub returns-then-digits-eq0 : goal.returns-then-digits-eq0
returns-then-digits-eq0 c = rw c.if-digits-eq0.true

pub returns-then-kind-eq3 : goal.returns-then-kind-eq3
returns-then-kind-eq3 c = simp (le-leb 1 _ (nonzero _ c.if-digits-eq0.false), eq-eqb _ _ c.if-kind-eq3.true)

pub returns : goal.returns
returns c = simp (le-leb 1 _ (nonzero _ c.if-digits-eq0.false), ne_eqb _ _ c.if-kind-eq3.false)
