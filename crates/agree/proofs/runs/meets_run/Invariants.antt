-- `agree::runs::meets_run` meets its contract. What passes is a position that agrees with one of the run.
use Rattle.agree.specs.Agreement.{Heading}
use Rattle.agree.specs.Positions.{agrees_any}
use Rattle.cut.specs.Segments.{segments_at}
use Rattle.agree.specs.workers.Parts.{headings_in}
use Rattle.agree.proofs.runs.meets_run.Given as goal

abbrev pub ghost-any_position : goal.ghost-any_position
ghost-any_position a = λ (q : Heading). agrees_any a.d.syntax q (headings_in a.test.2.now (segments_at a.d.syntax a.d.bytes.now a.test.1.now))
