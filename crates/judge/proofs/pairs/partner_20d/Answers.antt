-- `judge::pairs::partner_20d` meets its contract: the two arms are, computed, what their rows have, and no other row has a partner. Assumes nothing.
use Prim.Native.Nat.{ℕ}
use mathlib.Core.Path.{sym, ap}
use Rattle.guide.specs.Nodes.{node}
use Rattle.guide.specs.Options.{unless_0}
use Rattle.guide.specs.Pricat.{pricat20d}
use Rattle.judge.proofs.pairs.Partners.{alone_20d}
use Rattle.judge.proofs.pairs.partner_20d.Goals as goal

pub returns-in-21 : goal.returns-in-21
unfolding pricat20d
returns-in-21 c = sym (ap (λ (n : ℕ). unless_0 (node pricat20d n).partner) c.in-21.is)

pub returns-in-27 : goal.returns-in-27
unfolding pricat20d
returns-in-27 c = sym (ap (λ (n : ℕ). unless_0 (node pricat20d n).partner) c.in-27.is)

pub returns-in_default : goal.returns-in_default
returns-in_default c = alone_20d _ c.in_default.in_default-own.rest.0.1 c.in_default.in_default-own.rest.1
