-- `agree::headings::optional_at` meets its contract.
use Rattle.std.proofs.Common.{sym, ap, ◌∙◌}
use Rattle.bytewise.specs.Bytes.{begins}
use Rattle.agree.proofs.headings.Heads.{optional-none, optional-here, optional-other, optional_unlike}
use Rattle.agree.proofs.headings.optional_at.Goals as goal

pub returns-then-not-begins_with : goal.returns-then-not-begins_with
returns-then-not-begins_with c =
    optional_unlike _ _ _ _ _ c.past_breaks.ensures
    (ap (begins c.args.tag.now) (sym c.part.ensures) ∙ sym c.begins_with.ensures ∙ c.if-not-begins_with.true)

pub returns-in_err-segment_at : goal.returns-in_err-segment_at
returns-in_err-segment_at c = rw c.from_residual.ensures (optional-none _ _ _ _ (sym c.segment_at.ensures ∙ c.in_err-segment_at.was))

pub returns-then-begins_with : goal.returns-then-begins_with
returns-then-begins_with c =
    let bytes = rw c.span_of-found.ensures at c.part-2.ensures in
    rw c.span_of-found.ensures
    (optional-here _ _ _ _ _ (sym c.segment_at.ensures ∙ c.in_ok-segment_at.was)
    (ap (begins c.args.tag.now) (sym bytes) ∙ sym c.begins_with-2.ensures ∙ c.if-begins_with.true))

pub returns-else-begins_with : goal.returns-else-begins_with
returns-else-begins_with c =
    let bytes = rw c.span_of-found.ensures at c.part-2.ensures in
    optional-other _ _ _ _ _ (sym c.segment_at.ensures ∙ c.in_ok-segment_at.was)
    (ap (begins c.args.tag.now) (sym bytes) ∙ sym c.begins_with-2.ensures ∙ c.if-begins_with.false)
