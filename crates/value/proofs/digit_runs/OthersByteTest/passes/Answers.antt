-- `Others::passes` meets its contract.
use mathlib.Core.Bool.{not}
use mathlib.Core.Path.{ap, ◌∙◌}
use Rattle.value.proofs.DigitRuns.{ascii-digit}
use Rattle.value.proofs.digit_runs.OthersByteTest.passes.Goals as goal

pub returns : goal.returns
returns c = ap not (c.is_ascii_digit.ensures.value ∙ ascii-digit _)
