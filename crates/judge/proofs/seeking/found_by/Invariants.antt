-- `judge::seeking::found_by` meets its contract. The loop's invariant is `Sought`: the answer is found among the nodes that are left. Assumes nothing.
use Prim.Native.Nat.{ℕ}
use mathlib.Core.Bool.{Bool}
use mathlib.Core.List.{map}
use Rattle.guide.specs.Nodes.{node}
use Rattle.guide.specs.declared.edition.Edition.{Edition}
use Rattle.judge.specs.workers.Words.{packed, picks}
use Rattle.guide.specs.workers.Placing.{first_node}
use Rattle.guide.specs.Editions.{guide_of}
use Rattle.judge.proofs.sets.Sought.{Sought, within}
use Rattle.judge.proofs.seeking.found_by.Given as goal

-- whether the key is one of the codes of node n
abbrev pub keyed : Edition → ℕ → ℕ → Bool
keyed edition key n = picks (map packed (node (guide_of edition) n).selector.codes) key

abbrev pub invariant-loop-n : goal.invariant-loop-n
invariant-loop-n l =
    Sought (guide_of l.edition) (keyed l.edition l.key) (first_node (guide_of l.edition) (within l.nodes (keyed l.edition l.key))) l.n-iterator.0
