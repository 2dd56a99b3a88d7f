-- `print::rows::put_words` meets its contract. The loop's invariant: `Putting`.
use Prim.Native.Nat.{◌+◌, ◌*◌, ◌≤◌}
use mathlib.Core.Path.{◌≡◌}
use lib.ListN.{length, drop}
use Rattle.print.specs.Report.{words}
use Rattle.print.specs.workers.Rows.{put_at}
use Rattle.print.proofs.Putting.{Putting}
use Rattle.print.proofs.rows.put_words.Given as goal

abbrev pub invariant-loop-n : goal.invariant-loop-n
invariant-loop-n l =
    Putting (words (drop l.n-index l.ns)) l.place l.out (put_at l.at (words l.ns) l.initial.out) (l.at + length (words l.ns))
    × (l.place ≤ l.at + l.n-index * 21)
    × (length l.out ≡ length l.initial.out)
