-- `sieve::articles::print_rest` meets its contract. The loop's invariant: the print of what is left, behind what is gathered, is the whole one.
use mathlib.Core.Bool.{false}
use mathlib.Core.Path.{◌≡◌}
use Rattle.sieve.specs.workers.Words.{begun, Gathering}
use Rattle.sieve.proofs.articles.Gathering.{gathering}
use Rattle.sieve.proofs.articles.print_rest.Given as goal

abbrev pub invariant-loop-i : goal.invariant-loop-i
invariant-loop-i l = Gathering l.g × (gathering l.y l.d l.end l.from false (begun l.before) ≡ gathering l.y l.d l.end l.i l.released l.g)
