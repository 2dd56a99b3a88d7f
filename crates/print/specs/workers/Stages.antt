-- From one state of the printer to the next: what the workers promise each other.
use Rattle.std.specs.Prelude.{ℕ, ◌+◌}
use Rattle.guide.specs.Answers.{Verdict, accepts, refuses}
use Rattle.price.specs.Cursors.{first_cursor}
use Rattle.schaumtruhe.specs.workers.Answers.{one_if}
use Rattle.print.specs.declared.state.Counts.{Counts}
use Rattle.print.specs.declared.state.Stage.{Stage}
use Rattle.print.specs.declared.state.Stage.TheVariants as stage

-- the prices of an accepted message come next
abbrev pub stage_after : Verdict → ℕ → Stage
stage_after (accepts n e) start = stage.Prices (first_cursor start)
stage_after (refuses k i p n) start = stage.Between

-- the counts behind a message with this verdict
abbrev pub counted_after : Counts → Verdict → ℕ → Counts
counted_after c v e = record { at = e; messages = c.messages + 1; accepted = c.accepted + one_if v; outside = c.outside }
