-- `agree::headings::entry_at` meets its contract.
use Rattle.std.proofs.Common.{[], ◌∷◌, sym, ap, ◌∙◌}
use Rattle.bytewise.specs.Bytes.{begins}
use Rattle.cut.proofs.Ahead.{none_ahead}
use Rattle.agree.proofs.headings.Heads.{entry_other, entry-lin}
use Rattle.agree.proofs.headings.entry_at.Goals as goal

pub returns-in_err-segment : goal.returns-in_err-segment
returns-in_err-segment c = rw c.from_residual.ensures (none_ahead _ _ _ (sym c.segment_at.ensures ∙ c.in_err-segment.was))

pub returns-then-begins_with : goal.returns-then-begins_with
returns-then-begins_with c =
    let bytes = rw c.span_of-lin.ensures at c.part.ensures in
    entry-lin _ _ _ _ (sym c.segment_at.ensures ∙ c.in_ok-segment.was)
    (ap (begins (76 ∷ 73 ∷ 78 ∷ [])) (sym bytes) ∙ sym c.begins_with.ensures ∙ c.if-begins_with.true) _ (rw c.span_of-lin.ensures at c.head_at.ensures)

pub returns-else-begins_with : goal.returns-else-begins_with
returns-else-begins_with c =
    let bytes = rw c.span_of-lin.ensures at c.part.ensures in
    entry_other _ _ _ _ (sym c.segment_at.ensures ∙ c.in_ok-segment.was)
    (ap (begins (76 ∷ 73 ∷ 78 ∷ [])) (sym bytes) ∙ sym c.begins_with.ensures ∙ c.if-begins_with.false)
