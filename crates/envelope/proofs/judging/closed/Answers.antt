-- `envelope::judging::closed` meets its contract: what the walk found, and the rows by it.
use Rattle.std.proofs.Common.{sym, ◌∙◌}
use Rattle.envelope.proofs.rows.Answers.{is-not-UNZ, is-matched}
use Rattle.envelope.proofs.judging.closed.Goals as goal

pub returns-then-not-is_whole : goal.returns-then-not-is_whole
returns-then-not-is_whole c =
    is-not-UNZ _ _ _ _ c.requires _ c.walked-w.ensures (sym c.is_whole.ensures ∙ c.if-not-is_whole.true)

pub returns : goal.returns
returns c =
    c.matched.ensures
    ∙ is-matched _ _ _ _ c.requires _ c.walked-w.ensures (sym c.is_whole.ensures ∙ c.if-not-is_whole.false)
