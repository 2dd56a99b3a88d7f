-- `element::usual::has_usual_services` meets its contract: one character after the other.
use Rattle.element.proofs.UsualServices.{services-first, services_second, services-third, services-last}
use Rattle.element.proofs.usual.has_usual_services.Goals as goal

pub returns-then-y-ne39 : goal.returns-then-y-ne39
returns-then-y-ne39 c = services-first _ c.if-y-ne39.true

pub returns-then-y-ne43 : goal.returns-then-y-ne43
returns-then-y-ne43 c = services_second _ c.if-y-ne39.false c.if-y-ne43.true

pub returns-then-y-ne58 : goal.returns-then-y-ne58
returns-then-y-ne58 c =
    services-third _ c.if-y-ne39.false c.if-y-ne43.false c.if-y-ne58.true

pub returns : goal.returns
returns c =
    services-last _ c.if-y-ne39.false c.if-y-ne43.false c.if-y-ne58.false
