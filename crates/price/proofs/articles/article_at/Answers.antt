-- `price::articles::article_at` meets its contract.
use Rattle.price.proofs.inside.Parted.{held-until, article-past, article-found, article-missing}
use Rattle.price.proofs.articles.article_at.Goals as goal

pub returns-then-d-start : goal.returns-then-d-start
returns-then-d-start c = article-past _ _ _ _ _ c.if-d-start.true

pub returns-then-s : goal.returns-then-s
returns-then-s c =
    article-found _ _ _ _ _ _ _ c.if-d-start.false (held-until _ _ _ _ _ _ _ _ c.until.ensures.syntax c.until.ensures.bytes c.lin_from-lin.ensures)
    c.component_at-s.ensures c.if-s.true

pub returns : goal.returns
returns c =
    article-missing _ _ _ _ _ _ _ c.if-d-start.false (held-until _ _ _ _ _ _ _ _ c.until.ensures.syntax c.until.ensures.bytes c.lin_from-lin.ensures)
    c.component_at-s.ensures c.if-s.false
