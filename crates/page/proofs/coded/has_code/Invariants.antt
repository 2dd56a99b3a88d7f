-- `page::coded::has_code` meets its contract. The loop's invariant: what is found so far and the codes that are left decide.
use Prim.Native.Nat.{◌-◌}
use mathlib.Core.Bool.{◌||◌}
use mathlib.Core.Path.{◌≡◌}
use mathlib.Core.List.{[]}
use Rattle.page.specs.workers.Columns.{all_codes}
use Rattle.page.specs.workers.Keys.{key_among}
use Rattle.page.specs.workers.Words.{span}
use Rattle.page.proofs.coded.has_code.Given as goal

abbrev pub invariant-loop-n : goal.invariant-loop-n
invariant-loop-n l = l.found || key_among l.key (span all_codes [] l.n (l.next - l.n)) ≡ key_among l.key (span all_codes [] l.from (l.next - l.from))
