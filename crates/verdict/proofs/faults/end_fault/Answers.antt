-- `verdict::faults::end_fault` meets its contract: the count, and then the reference.
use Rattle.verdict.specs.workers.Segments.{spanned}
use Rattle.verdict.proofs.segment.Texts.{decoded-text}
use Rattle.verdict.proofs.faults.Numbers.{numbered, count-fault, reference-fault, no_end_fault}
use Rattle.verdict.proofs.faults.end_fault.Goals as goal

pub returns-then-not-is_numbered : goal.returns-then-not-is_numbered
returns-then-not-is_numbered c =
    count-fault c.args.edition _ _ _ _ _ (numbered _ _ _ _ c.is_numbered.ensures c.requires) c.if-not-is_numbered.true

pub returns-then-not-same_plain : goal.returns-then-not-same_plain
unfolding spanned
returns-then-not-same_plain c =
    reference-fault c.args.edition _ _ _ _ _ (numbered _ _ _ _ c.is_numbered.ensures c.requires)
    c.if-not-is_numbered.false _
    (decoded-text _ _ _ _ _ _ _ c.component_at-span.ensures) _ c.same_plain.ensures c.if-not-same_plain.true

pub returns : goal.returns
unfolding spanned
returns c =
    no_end_fault c.args.edition _ _ _ _ _ (numbered _ _ _ _ c.is_numbered.ensures c.requires) c.if-not-is_numbered.false _
    (decoded-text _ _ _ _ _ _ _ c.component_at-span.ensures) _ c.same_plain.ensures c.if-not-same_plain.false
