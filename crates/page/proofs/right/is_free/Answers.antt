-- `page::right::is_free` meets its contract: a text format and no codes.
use mathlib.Core.Bool.{false≢true}
use mathlib.Core.Path.{sym, ◌∙◌}
use Rattle.page.proofs.coded.KeyCodes.{listed-any}
use Rattle.page.proofs.formed.Faults.{formed_up_to}
use Rattle.page.proofs.right.is_free.Goals as goal

pub returns-then-row-ne0 : goal.returns-then-row-ne0
returns-then-row-ne0 c h = absurd (false≢true h)

pub returns-then-row-ne0-2 : goal.returns-then-row-ne0-2
returns-then-row-ne0-2 c h = absurd (false≢true h)

pub returns : goal.returns
returns c h y t count =
    (sym (formed_up_to y _ t _ count c.requires c.if-row-ne0.false) ∙ h, sym (listed-any _ t c.if-row-ne0-2.false))
