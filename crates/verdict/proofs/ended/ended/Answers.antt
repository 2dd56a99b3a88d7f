-- `verdict::ended::ended` meets its contract.
use borrow.Author.Tests.{not-true}
use mathlib.Core.Path.{refl}
use Rattle.verdict.proofs.ended.Ends.{no_end, not-compared, undoubted, agreeing}
use Rattle.verdict.proofs.ended.ended.Goals as goal
use Rattle.verdict.proofs.ended.ended.Goals.{then-kept-via-then-kept, then-kept-via-else-kept+then-not-kept}

pub returns-then-not-has_tag : goal.returns-then-not-has_tag
returns-then-not-has_tag c =
    let a = c.args in
    no_end a.edition a.d.syntax a.d.bytes.now a.start _ _ a.walked.kept _ c.has_tag.ensures c.if-not-has_tag.true

pub returns-then-kept : goal.returns-then-kept
returns-then-kept c =
    let a = c.args in
    elim c.then-kept.branch [
      | then-kept-via-then-kept w ↦
          not-compared a.edition a.d.syntax a.d.bytes.now a.start _ _ a.walked.kept _ c.has_tag.ensures c.if-not-has_tag.false w.if-kept.true
      | then-kept-via-else-kept+then-not-kept w ↦
          undoubted a.edition a.d.syntax a.d.bytes.now a.start _ _ a.walked.kept _ c.has_tag.ensures c.if-not-has_tag.false w.if-kept.false _ refl
          (c.requires.none_agrees (not-true _ w.if-not-kept.true))
    ]

pub returns-in-Some : goal.returns-in-Some
returns-in-Some c =
    let a = c.args in
    agreeing a.edition a.d.syntax a.d.bytes.now a.start a.walked.segments a.walked.end a.walked.kept _ c.has_tag.ensures
    c.if-not-has_tag.false c.if-kept.false _ c.first_agreeing.ensures _ _ c.in-Some.is

pub returns-in-None : goal.returns-in-None
returns-in-None c =
    let a = c.args in
    undoubted a.edition a.d.syntax a.d.bytes.now a.start _ _ a.walked.kept _ c.has_tag.ensures
    c.if-not-has_tag.false c.if-kept.false _ c.first_agreeing.ensures c.in-None.is
