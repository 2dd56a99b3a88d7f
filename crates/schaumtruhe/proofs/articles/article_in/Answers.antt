-- `schaumtruhe::articles::article_in` meets its contract.
use Rattle.schaumtruhe.proofs.Refusals.{some-number}
use Rattle.schaumtruhe.proofs.ArticlePlaces.{article-refused, article-found}
use Rattle.schaumtruhe.proofs.articles.article_in.Goals as goal

pub returns-in-Err : goal.returns-in-Err
returns-in-Err c =
    let lost = c.in-Err.ensures in
    article-refused _ _ _ _ _ lost.refusal (some-number _)

pub returns-in-Ok : goal.returns-in-Ok
returns-in-Ok c =
    let found = c.in-Ok.ensures in
    article-found _ _ _ _ _ found.sheet found.refusal _ c.article_at.ensures
