-- `plain::plain::is_code` meets its contract.
use Rattle.std.proofs.lemmas.Iterator.{YieldsList-from_slice}
use Rattle.std.proofs.lemmas.Iterator.Consumers.{YieldsList-from_first, YieldsList-from_copied}
use Rattle.plain.specs.Plain.{literals_left}
use Rattle.plain.proofs.Comparing.{same-compared}
use Rattle.plain.proofs.plain.is_code.Goals as goal

pub returns : goal.returns
returns c =
    same-compared (YieldsList-from_first (λ x. x) literals_left _ c.of.ensures)
    (YieldsList-from_copied (YieldsList-from_slice c.args.word.now (cc)))
    _ c.eq.ensures.ran
