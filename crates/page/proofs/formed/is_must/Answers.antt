-- `page::formed::is_must` meets its contract: by the status.
use Rattle.page.proofs.formed.Faults.{must-status}
use Rattle.page.proofs.formed.is_must.Goals as goal

pub returns : goal.returns
returns c = must-status _
