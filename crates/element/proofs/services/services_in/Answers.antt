-- `element::services::services_in` meets its contract: a byte is flagged if it is one of the four. Assumes nothing.
use Rattle.element.proofs.scan.Services.{service-flags}
use Rattle.element.proofs.services.services_in.Goals as goal

pub returns : goal.returns
returns c =
    rw (c.alike.ensures, c.alike-2.ensures, c.alike-3.ensures, c.alike-4.ensures) (service-flags _ _)
