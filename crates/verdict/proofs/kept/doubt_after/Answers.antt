-- `verdict::kept::doubt_after` meets its contract.
use Rattle.verdict.specs.workers.Segments.{spanned}
use Rattle.verdict.proofs.kept.doubt_after.Goals as goal

pub returns : goal.returns
unfolding spanned
returns c h = record { before = c.if-kept-2.false; table = rw h at c.note_article.ensures }
