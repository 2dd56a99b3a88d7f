-- `price::articles::lin_from` meets its contract. The loop's invariant: `Seeking`.
use Prim.Native.Nat.{◌-◌}
use lib.ListN.{length}
use Rattle.price.proofs.articles.Seeking.{Seeking}
use Rattle.price.proofs.articles.lin_from.Given as goal

abbrev pub invariant-loop-spot : goal.invariant-loop-spot
invariant-loop-spot l = Seeking l.d.syntax l.d.bytes.now l.start l.k l.at l.left l.p

abbrev pub decreases-loop-spot : goal.decreases-loop-spot
decreases-loop-spot l = length l.d.bytes.now - l.at
