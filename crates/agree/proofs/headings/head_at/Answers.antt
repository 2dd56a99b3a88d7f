-- `agree::headings::head_at` meets its contract.
use Rattle.agree.proofs.headings.Heads.{head_of}
use Rattle.agree.proofs.headings.head_at.Goals as goal
use Rattle.agree.proofs.headings.head_at.Goals.{in-Some, in-None}

pub returns : goal.returns
returns c =
    elim c.match-pia.branch [
      | in-Some w ↦
          rw w.pia-is
          (head_of _ _ _ _ _ _ (rw w.in-Some.is at c.optional_at-pia.ensures) w.behind-is c.optional_at-imd.ensures)
      | in-None w ↦
          rw w.pia-is
          (head_of _ _ _ _ _ _ c.optional_at-pia.ensures (rw w.in-None.is w.behind-is) c.optional_at-imd.ensures)
    ]
