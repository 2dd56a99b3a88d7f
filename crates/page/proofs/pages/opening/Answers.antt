-- `page::pages::opening` meets its contract: each return by its test.
use Rattle.page.proofs.pages.Moods.{opening_asks, opening_idle}
use Rattle.page.proofs.pages.opening.Goals as goal

pub returns-then-word-eq1 : goal.returns-then-word-eq1
returns-then-word-eq1 c = opening_asks _ c.if-word-eq1.true

pub returns : goal.returns
returns c = opening_idle _ c.if-word-eq1.false
