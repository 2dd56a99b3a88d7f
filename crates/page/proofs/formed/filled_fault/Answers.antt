-- `page::formed::filled_fault` meets its contract: each return by its tests, in the order 18, 19, 20.
use Rattle.page.proofs.formed.Faults.{filled-unused, filled-format, filled-code, filled-right}
use Rattle.page.proofs.formed.filled_fault.Goals as goal

pub returns-then-row-eq0 : goal.returns-then-row-eq0
returns-then-row-eq0 c = filled-unused _ _ _ _ c.requires c.if-row-eq0.true

pub is_formed-requires : goal.is_formed-requires
is_formed-requires c = c.requires

pub returns-then-not-is_formed : goal.returns-then-not-is_formed
returns-then-not-is_formed c =
    filled-format _ _ _ _ c.requires c.if-row-eq0.false _ c.is_formed.ensures c.if-not-is_formed.true

pub listed-requires : goal.listed-requires
listed-requires c = c.requires.0

pub returns-then-not-listed : goal.returns-then-not-listed
returns-then-not-listed c =
    filled-code _ _ _ _ c.requires c.if-row-eq0.false _ c.is_formed.ensures c.if-not-is_formed.false _
    c.listed.ensures c.if-not-listed.true

pub returns : goal.returns
returns c =
    filled-right _ _ _ _ c.requires c.if-row-eq0.false _ c.is_formed.ensures c.if-not-is_formed.false _
    c.listed.ensures c.if-not-listed.false
