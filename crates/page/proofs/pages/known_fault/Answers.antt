-- `page::pages::known_fault` meets its contract: each return by the mood.
use mathlib.Core.Path.{◌∙◌}
use native.Mathlib.Omega.{arith}
use Rattle.page.proofs.pages.Moods.{asking_text, idle_text, owing_empty, owing_filled, tag_calm}
use Rattle.page.proofs.pages.known_fault.Goals as goal
use Rattle.page.proofs.pages.known_fault.Goals.{in-Asking, in-Idle}

pub returns-then-n-gt0 : goal.returns-then-n-gt0
returns-then-n-gt0 c = rw c.in-Owing.is (owing_filled _ _ _ (omega (arith, c.requires)))

pub returns-in-Owing : goal.returns-in-Owing
returns-in-Owing c = rw c.in-Owing.is (owing_empty _ _ _ (omega (arith, c.requires, c.if-n-gt0.false)))

pub returns-in-Tag : goal.returns-in-Tag
returns-in-Tag c = rw c.in-Tag.is (tag_calm _ _ _)

pub returns : goal.returns
returns c =
    elim c.match-mood.branch [
      | in-Asking w ↦ rw w.in-Asking.is (c.text_fault.ensures ∙ rw w.asked-is (asking_text _ _ _))
      | in-Idle w ↦ rw w.in-Idle.is (c.text_fault.ensures ∙ rw w.asked-is (idle_text _ _ _))
    ]
