-- `page::pages::absent` meets its contract: the elements that lack a component reach behind element e or not.
use Rattle.page.proofs.pages.Moods.{absent_some, absent_none}
use Rattle.page.proofs.pages.absent.Goals as goal

pub returns-then-e-page : goal.returns-then-e-page
returns-then-e-page c = absent_some _ c.requires _ c.if-e-page.true

pub returns : goal.returns
returns c = absent_none _ c.requires _ c.if-e-page.false
