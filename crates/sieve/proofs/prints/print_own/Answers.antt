-- `sieve::prints::print_own` meets its contract. The loop's invariant: the print of what is left, after that of what is passed, is the whole one.
use mathlib.Core.Path.{refl, sym, ◌∙◌}
use native.Mathlib.Omega.{arith}
use Rattle.sieve.proofs.prints.Printing.{printing_on, printing_stops, printing_through}
use Rattle.sieve.proofs.prints.print_own.Goals as goal

pub loop-i-init : goal.loop-i-init
loop-i-init c = refl

pub returns-in-Some : goal.returns-in-Some
returns-in-Some c =
    printing_stops _ _ _ _ _ _ c.loop-i-test.true _ _ _ _ _ (omega arith) c.loop-i.invariant (sym c.ending_of.ensures ∙ c.in-Some.is)

pub loop-i-preserved : goal.loop-i-preserved
loop-i-preserved c =
    c.loop-i.invariant
    ∙ printing_on _ _ _ _ _ _ c.loop-i-test.true _ _ _ _ _ _ (sym c.ending_of.ensures ∙ c.in_default.is)
    c.frees_next-released.ensures c.named-w.ensures refl c.mixed_unless-print.ensures

pub returns : goal.returns
returns c = printing_through _ _ _ _ _ _ _ _ _ _ _ c.loop-i-test.false c.loop-i.invariant
