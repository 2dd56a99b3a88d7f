-- `agree::first::search_from` meets its contract. The loop's invariant: `Searched`.
use Rattle.std.proofs.Common.{◌≡◌, false, sym, ◌∙◌}
use Rattle.agree.specs.workers.Parts.{EntryAt}
use Rattle.agree.proofs.earlier.Search.{search_none, search_found, search_on, repeats}
use Rattle.agree.proofs.first.search_from.Goals as goal
use Rattle.agree.proofs.first.search_from.Goals.{in_default-position-via-in-Some-position+else-agrees_earlier, in_default-position-via-in_default-position}

pub returns-in-Some-position : goal.returns-in-Some-position
returns-in-Some-position c =
    let q : EntryAt c.args.d.syntax c.args.d.bytes.now c.loop-entry.at c.in-Some.entry = rw c.in-Some.is at c.entry_at.ensures in
    search_found _ _ _ _ _ c.loop-entry.invariant _ q
    (rw c.in-Some-position.is (sym c.agrees_earlier.ensures ∙ c.if-agrees_earlier.true))

pub loop-entry-preserved : goal.loop-entry-preserved
loop-entry-preserved c =
    let q : EntryAt c.args.d.syntax c.args.d.bytes.now c.loop-entry.at c.in-Some.entry = rw c.in-Some.is at c.entry_at.ensures in
    let no : repeats c.args.d.syntax c.args.d.bytes.now c.args.start _ _ c.loop-entry.invariant _ q ≡ false =
    elim c.in_default-position.branch [
      | in_default-position-via-in-Some-position+else-agrees_earlier w ↦
          rw w.in-Some-position.is (sym w.agrees_earlier.ensures ∙ w.if-agrees_earlier.false)
      | in_default-position-via-in_default-position w ↦ rw w.in_default-position.is
    ] in
    search_on _ _ _ _ _ c.loop-entry.invariant _ q no

pub returns : goal.returns
returns c = search_none _ _ _ _ _ c.loop-entry.invariant (rw c.in_default.is at c.entry_at.ensures)
