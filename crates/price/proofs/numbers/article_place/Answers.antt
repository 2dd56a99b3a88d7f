-- `price::numbers::article_place` meets its contract.
use mathlib.Core.Path.{◌∙◌}
use mir.Syntax.{w64}
use mir.Facts.{to_z_pos}
use Rattle.price.proofs.numbers.Answers.{article-stands, article-absent}
use Rattle.price.proofs.numbers.article_place.Goals as goal

pub returns-then-a : goal.returns-then-a
returns-then-a c = to_z_pos w64 c.requires ∙ article-stands _ c.if-a.true

pub returns : goal.returns
returns c = article-absent _ c.if-a.false
