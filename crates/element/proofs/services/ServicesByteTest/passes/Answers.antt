-- `Services::passes` meets its contract.
use mathlib.Core.Bool.{not}
use mathlib.Core.Path.{sym, ap, ◌∙◌}
use Rattle.std.specs.Prelude.{is_some}
use Rattle.element.specs.Services.{is_service}
use Rattle.element.proofs.scan.Endings.{stays-is}
use Rattle.element.proofs.scan.Services.{service_end}
use Rattle.element.proofs.services.ServicesByteTest.passes.Goals as goal

pub returns-then-is_some : goal.returns-then-is_some
returns-then-is_some c =
    c.if-is_some.true ∙ sym (service_end _ _ (stays-is _ _ (c.is_some.ensures ∙ ap is_some c.ending_of.ensures) ∙ ap not c.if-is_some.true))

pub returns-else-is_some : goal.returns-else-is_some
unfolding is_service
returns-else-is_some c = rw (stays-is _ _ (c.is_some.ensures ∙ ap is_some c.ending_of.ensures) ∙ ap not c.if-is_some.false)
