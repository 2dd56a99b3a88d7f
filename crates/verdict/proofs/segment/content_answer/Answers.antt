-- `verdict::segment::content_answer` meets its contract: what is read first, and then the rules.
use mathlib.Core.Path.{refl, ◌∙◌, ap}
use Rattle.std.specs.Prelude.{Err}
use Rattle.guide.proofs.Reasons.{number-some}
use Rattle.page.proofs.Readings.{sound}
use Rattle.verdict.specs.declared.segment.Blamed.{Blamed}
use Rattle.verdict.specs.workers.Segments.{told_of}
use Rattle.verdict.proofs.segment.Texts.{spanned-text}
use Rattle.verdict.proofs.faults.Numbers.{content_rule}
use Rattle.verdict.proofs.segment.Answering.{content_read, content_refused, content-fits}
use Rattle.verdict.proofs.segment.content_answer.Goals as goal

pub returns-in-Err : goal.returns-in-Err
returns-in-Err c =
    let a = c.args in
    ap (λ (b : Blamed). told_of (Err b)) c.page_refused.ensures ∙ content_read a.edition a.d.syntax a.d.bytes.now a.start a.i a.n a.kept _ c.in-Err.ensures

pub rule_fault-requires : goal.rule_fault-requires
rule_fault-requires c =
    let a = c.args in
    record {
      positions_bound = c.requires;
      d_value = spanned-text _ _ _ _ _ _ _ (sound a.d.syntax a.edition a.n a.d.bytes.now a.start _ c.in-Ok.ensures).first;
    }

pub returns-in-Err-rule_fault : goal.returns-in-Err-rule_fault
returns-in-Err-rule_fault c =
    let a = c.args in
    let q = sound a.d.syntax a.edition a.n a.d.bytes.now a.start _ c.in-Ok.ensures in
    content_refused a.edition a.d.syntax a.d.bytes.now a.start a.i a.n a.kept _ q _
    (content_rule a.edition _ _ _ _ _ _ _ _ q.page _ c.role_of-role.ensures _ c.in-Err-rule_fault.ensures) (number-some _)

pub returns : goal.returns
returns c =
    let a = c.args in
    let q = sound a.d.syntax a.edition a.n a.d.bytes.now a.start _ c.in-Ok.ensures in
    content-fits a.edition a.d.syntax a.d.bytes.now a.start a.i a.n a.kept _ q _
    (content_rule a.edition _ _ _ _ _ _ _ _ q.page _ c.role_of-role.ensures _ c.in_default.ensures) refl _ c.role_of-role.ensures
