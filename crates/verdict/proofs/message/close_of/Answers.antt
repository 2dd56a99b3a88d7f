-- `verdict::message::close_of` meets its contract.
use Rattle.verdict.proofs.ended.Ends.{close-last, close_more}
use Rattle.verdict.proofs.message.close_of.Goals as goal

pub returns-then-last : goal.returns-then-last
returns-then-last c = close-last _ _ _ c.if-last.true

pub returns : goal.returns
returns c = close_more _ _ _ c.if-last.false _ c.message_end.ensures
