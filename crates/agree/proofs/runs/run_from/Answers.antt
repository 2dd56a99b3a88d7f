-- `agree::runs::run_from` meets its contract. The loop's invariant: what is passed is such a run.
use Rattle.agree.specs.workers.Parts.{EntryAt}
use Rattle.agree.proofs.runs.Running.{run-begins, run_on, run_other}
use Rattle.agree.proofs.runs.run_from.Goals as goal
use Rattle.agree.proofs.runs.run_from.Goals.{in-Some-position+else-agrees_marked, in_default-position}

pub loop-room-init : goal.loop-room-init
loop-room-init c = run-begins _ _ _ _ c.requires

pub loop-room-preserved : goal.loop-room-preserved
loop-room-preserved c =
    let q : EntryAt c.args.d.syntax c.args.d.bytes.now c.loop-room.run.end c.in-Some.entry = rw c.in-Some.is at c.entry_at.ensures in
    elim c.match-entry.branch [
      | in-Some-position+else-agrees_marked w ↦
          run_on _ _ _ _ _ c.loop-room.invariant _ q _ _ w.in-Some-position.is _ w.print_head-f.ensures _ w.agrees_marked.ensures
          w.if-agrees_marked.false (rw w.t-is w.mark.ensures)
      | in_default-position w ↦ run_other _ _ _ _ _ c.loop-room.invariant _ q _ w.in_default-position.is w.t-is
    ]
