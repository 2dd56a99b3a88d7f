-- `sieve::came::came` meets its contract.
use mathlib.Core.Path.{sym, ◌∙◌}
use Rattle.sieve.specs.workers.Came.{came_in}
use Rattle.sieve.proofs.came.came.Goals as goal

pub returns-then-not-is_set : goal.returns-then-not-is_set
unfolding came_in
returns-then-not-is_set c = rw (sym c.is_set.ensures ∙ c.if-not-is_set.true)

pub returns : goal.returns
unfolding came_in
returns c =
    rw (
      sym c.is_set.ensures ∙ c.if-not-is_set.false,
      ← c.mixed.ensures,
    )
    c.is_set-2.ensures
