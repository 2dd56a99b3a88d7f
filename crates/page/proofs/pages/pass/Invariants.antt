-- `page::pages::pass` meets its contract. The loop's invariant: what is found from the next component on is the answer.
use Prim.Native.Nat.{◌-◌}
use Rattle.bytewise.specs.Bytes.{part}
use Rattle.guide.specs.workers.PageFault.{page_fault}
use Rattle.page.specs.workers.Walk.{stand_in}
use Rattle.page.specs.workers.Words.{page_in}
use Rattle.page.proofs.places.Sought.{Gathered}
use Rattle.page.proofs.pages.Steps.{Before}
use Rattle.page.proofs.pages.pass.Given as goal

abbrev pub invariant-loop-places : goal.invariant-loop-places
invariant-loop-places l =
    Before l.d.syntax (page_in l.page) l.d.bytes.now l.limit (page_fault l.d.syntax (page_in l.page)
    (part l.start l.limit l.d.bytes.now)) l.a l.e l.c l.word (stand_in l.mood)
    × Gathered l.d.syntax l.d.bytes.now l.start l.limit l.places l.a l.e l.c

abbrev pub decreases-loop-places : goal.decreases-loop-places
decreases-loop-places l = l.limit - l.a
