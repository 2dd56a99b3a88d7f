-- `sieve::marks::is_marked` meets its contract.
use mathlib.Core.Path.{sym, ◌∙◌}
use Rattle.sieve.specs.workers.Marks.{marked_in}
use Rattle.sieve.proofs.marks.is_marked.Goals as goal

pub returns-then-not-holds : goal.returns-then-not-holds
unfolding marked_in
returns-then-not-holds c = rw (sym c.holds.ensures ∙ c.if-not-holds.true)

pub returns-then-not-holds-2 : goal.returns-then-not-holds-2
unfolding marked_in
returns-then-not-holds-2 c =
    rw (
      sym c.holds.ensures ∙ c.if-not-holds.false,
      ← c.mixed-g.ensures,
      sym c.holds-2.ensures ∙ c.if-not-holds-2.true,
    )

pub returns : goal.returns
unfolding marked_in
returns c =
    rw (
      sym c.holds.ensures ∙ c.if-not-holds.false,
      ← c.mixed-g.ensures,
      sym c.holds-2.ensures ∙ c.if-not-holds-2.false,
      ← c.mixed.ensures,
    )
    c.holds-3.ensures
