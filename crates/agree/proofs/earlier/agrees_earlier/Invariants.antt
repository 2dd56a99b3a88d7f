-- `agree::earlier::agrees_earlier` meets its contract. What passes is a position that agrees with this one.
use Rattle.agree.specs.Agreement.{Heading, agree}
use Rattle.agree.specs.workers.Parts.{heading_in}
use Rattle.agree.proofs.earlier.agrees_earlier.Given as goal

abbrev pub ghost-any_position : goal.ghost-any_position
ghost-any_position a = λ (q : Heading). agree a.test.0.now q (heading_in a.test.2.now a.test.1.now)
