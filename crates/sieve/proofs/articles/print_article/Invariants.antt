-- `sieve::articles::print_article` meets its contract. The loop's invariant: the print of what is left, after that of what is passed, is the
-- whole one.
use Prim.Native.Nat.{◌-◌}
use mathlib.Core.Path.{◌≡◌}
use Rattle.plain.specs.Plain.{decoded}
use Rattle.sieve.specs.workers.Words.{begun, print_from}
use Rattle.sieve.proofs.articles.print_article.Given as goal

abbrev pub invariant-loop-i : goal.invariant-loop-i
invariant-loop-i l = print_from (begun 0) (decoded l.y l.a l.end l.d) ≡ print_from (begun l.print) (decoded l.y l.i l.end l.d)

abbrev pub decreases-loop-i : goal.decreases-loop-i
decreases-loop-i l = l.end - l.i
