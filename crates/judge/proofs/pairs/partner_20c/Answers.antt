-- `judge::pairs::partner_20c` meets its contract: the two arms are, computed, what their rows have, and no other row has a partner. Assumes nothing.
use Prim.Native.Nat.{ℕ}
use mathlib.Core.Path.{sym, ap}
use Rattle.guide.specs.Nodes.{node}
use Rattle.guide.specs.Options.{unless_0}
use Rattle.guide.specs.Pricat.{pricat20c}
use Rattle.judge.proofs.pairs.Partners.{alone_20c}
use Rattle.judge.proofs.pairs.partner_20c.Goals as goal

pub returns-in-19 : goal.returns-in-19
unfolding pricat20c
returns-in-19 c = sym (ap (λ (n : ℕ). unless_0 (node pricat20c n).partner) c.in-19.is)

pub returns-in-25 : goal.returns-in-25
unfolding pricat20c
returns-in-25 c = sym (ap (λ (n : ℕ). unless_0 (node pricat20c n).partner) c.in-25.is)

pub returns-in_default : goal.returns-in_default
returns-in_default c = alone_20c _ c.in_default.in_default-own.rest.0.1 c.in_default.in_default-own.rest.1
