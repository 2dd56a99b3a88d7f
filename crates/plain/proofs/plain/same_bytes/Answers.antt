-- `plain::plain::same_bytes` meets its contract.
use Rattle.std.proofs.lemmas.Iterator.Consumers.{YieldsList-from_first}
use Rattle.plain.specs.Plain.{literals_left}
use Rattle.plain.proofs.Comparing.{same-compared}
use Rattle.plain.proofs.plain.same_bytes.Goals as goal

pub returns : goal.returns
returns c =
    same-compared (YieldsList-from_first (λ x. x) literals_left _ c.of.ensures) (YieldsList-from_first (λ x. x) literals_left _ c.of-2.ensures)
    _ c.eq.ensures.ran
