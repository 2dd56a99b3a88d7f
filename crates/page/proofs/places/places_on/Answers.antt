-- `page::places::places_on` meets its contract: each return by its tests.
use Rattle.page.proofs.places.Sought.{places_inner, places_first, places_third, places_other}
use Rattle.page.proofs.places.places_on.Goals as goal

pub returns-then-c-ne0 : goal.returns-then-c-ne0
returns-then-c-ne0 c = places_inner _ _ _ _ c.if-c-ne0.true

pub returns-then-e-eq1 : goal.returns-then-e-eq1
returns-then-e-eq1 c = places_first _ _ _ _ c.if-c-ne0.false c.if-e-eq1.true

pub returns-then-e-eq3 : goal.returns-then-e-eq3
returns-then-e-eq3 c = places_third _ _ _ _ c.if-c-ne0.false c.if-e-eq3.true

pub returns : goal.returns
returns c = places_other _ _ _ _ c.if-c-ne0.false c.if-e-eq1.false c.if-e-eq3.false
