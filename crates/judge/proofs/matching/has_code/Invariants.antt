-- `judge::matching::has_code` meets its contract. The loop's invariant: the search from here on gives the answer. Assumes nothing.
use Prim.Native.Nat.{◌≤◌}
use mathlib.Core.Path.{◌≡◌}
use mathlib.Core.List.{map}
use lib.ListN.{length}
use Rattle.bytewise.specs.Bytes.{part}
use Rattle.guide.specs.Nodes.{node}
use Rattle.guide.specs.Editions.{guide_of}
use Rattle.judge.specs.workers.Words.{packed, holds}
use Rattle.judge.specs.workers.Rows.{codes_of}
use Rattle.judge.proofs.matching.has_code.Given as goal

abbrev pub invariant-loop-j : goal.invariant-loop-j
invariant-loop-j l =
    (l.j-end ≤ length (codes_of (guide_of l.edition)))
    × (holds l.key (part l.j l.j-end (codes_of (guide_of l.edition))) ≡ holds l.key (map packed (node (guide_of l.edition) l.n).selector.codes))
