-- `sieve::articles::print_rest` meets its contract. The loop's invariant: the print of what is left, behind what is gathered, is the whole one.
use mathlib.Core.Path.{refl, sym, ◌∙◌}
use native.Mathlib.Omega.{arith}
use borrow.Author.Rules.{rules}
use Rattle.plain.specs.Plain.{decoded}
use Rattle.sieve.proofs.articles.Gathering.{gathering_on, gathering_out}
use Rattle.sieve.proofs.articles.print_rest.Goals as goal

pub loop-i-init : goal.loop-i-init
loop-i-init c = (record { below = omega arith; small = omega arith }, refl)

pub gather-g-requires : goal.gather-g-requires
gather-g-requires c = c.loop-i.invariant.0

pub loop-i-preserved : goal.loop-i-preserved
loop-i-preserved c = (
  c.gather-g.ensures.1,
  c.loop-i.invariant.1
      ∙ gathering_on _ _ _ _ _ _ _ _ c.loop-i-test.true (search rules) c.frees_next-released.ensures c.gather-g.ensures.0,
)

pub returns : goal.returns
unfolding decoded
returns c = gathering_out _ _ _ _ _ _ _ c.loop-i-test.false c.closed.ensures ∙ sym c.loop-i.invariant.1
