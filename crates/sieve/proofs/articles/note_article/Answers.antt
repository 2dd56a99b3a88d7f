-- `sieve::articles::note_article` meets its contract.
use Rattle.sieve.proofs.came.Noted.{noted}
use Rattle.sieve.proofs.articles.note_article.Goals as goal

pub returns : goal.returns
returns c =
    noted _ _ _ _ _ c.print_article-f.ensures c.came-again.ensures c.note.ensures
