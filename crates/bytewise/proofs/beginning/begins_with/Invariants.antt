-- `bytewise::beginning::begins_with` meets its contract: what the whole answers, the bytes not compared yet answer.
use mathlib.Core.Path.{◌≡◌}
use lib.ListN.{drop}
use Rattle.bytewise.specs.Bytes.{begins}
use Rattle.bytewise.proofs.beginning.begins_with.Given as goal

abbrev pub invariant-loop-i : goal.invariant-loop-i
invariant-loop-i l = begins l.word l.d ≡ begins (drop l.i l.word) (drop l.i l.d)
