-- What the crate's own workers promise each other; no public call cites these.
use Rattle.std.specs.Prelude.{ℕ, cond, List, Result, Ok, Err}
use Rattle.cut.specs.declared.service.Syntax.{Syntax}
use Rattle.cut.specs.Admission.{admission_of}
use Rattle.messages.specs.Calls.{is_found, message_at}
use Rattle.messages.specs.Messages.{start_of, close_of}
use Rattle.guide.specs.Answers.{Verdict, accepts, refuses}
use Rattle.guide.specs.Choices.{or_else}
use Rattle.schaumtruhe.specs.declared.sheets.Sheet.{Sheet as Standing}
use Rattle.schaumtruhe.specs.Calls.{Sheet, stands, missing}

-- an accepted message by its start and end
abbrev pub standing_of : Sheet → Result Standing ℕ
standing_of (stands m) = Ok (record { start = start_of m; end = close_of m })
standing_of (missing n) = Err n

-- 1, 2, or 31 if no message begins at the place; else 0
abbrev pub asked : Syntax → List ℕ → ℕ → ℕ
asked y d at = or_else (admission_of y d) (cond (is_found (message_at y d at)) 0 31)

abbrev pub one_if : Verdict → ℕ
one_if (accepts n e) = 1
one_if (refuses k i p n) = 0
