-- `verdict::message::judged` meets its contract.
use Rattle.verdict.proofs.edition.Naming.{judged-named}
use Rattle.verdict.proofs.message.judged.Goals as goal

pub returns : goal.returns
returns c = judged-named _ _ _ _ c.edition_at.ensures _ _ c.judged_by.ensures
