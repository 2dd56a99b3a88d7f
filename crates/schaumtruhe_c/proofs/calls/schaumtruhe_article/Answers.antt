-- `schaumtruhe_c::calls::schaumtruhe_article` meets its contract.
use mathlib.Core.Path.{ap₂, ◌∙◌}
use Rattle.schaumtruhe.proofs.ArticlePlaces.{article-within}
use Rattle.schaumtruhe_c.specs.Answers.{article_of}
use Rattle.schaumtruhe_c.proofs.calls.schaumtruhe_article.Goals as goal

pub overflow_sub-length : goal.overflow_sub-length
overflow_sub-length c = rw c.article_at-s.ensures (article-within _ _ _ _).0

pub returns : goal.returns
returns c = ap₂ article_of (c.number_of-number.ensures ∙ c.article_refusal.ensures) c.article_at-s.ensures
