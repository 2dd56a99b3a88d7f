-- `next` of `plain::literals::Literals` meets its contract: a byte, or the one behind a release mark, is taken off.
use mathlib.Core.Path.{sym, ◌∙◌, ap}
use borrow.Author.Rules.{rules}
use lib.ListN.{length}
use Rattle.plain.specs.Plain.{literals_left}
use Rattle.plain.proofs.Reading.{left-none, left-byte, left-released, left-mark}
use Rattle.plain.proofs.literals.LiteralsIterator.next.Goals as goal

pub returns-in_err-first-clause-steps : goal.returns-in_err-first-clause-steps
unfolding literals_left
returns-in_err-first-clause-steps c =
    let h = left-none c.args.self.now.syntax _ c.in_err-first.ensures.cases in
    rw c.from_residual.ensures (h, h)

pub returns-then-not-releases-clause-steps : goal.returns-then-not-releases-clause-steps
unfolding literals_left
returns-then-not-releases-clause-steps c =
    left-byte _ _ _ _ c.in_ok-first.ensures.cases.0 (sym c.releases.ensures ∙ c.if-not-releases.true)

pub returns-then-not-releases-clause-goes : goal.returns-then-not-releases-clause-goes
unfolding literals_left
returns-then-not-releases-clause-goes c =
    let h = ap length (left-byte _ _ _ _ c.in_ok-first.ensures.cases.0 (sym c.releases.ensures ∙ c.if-not-releases.true)) in
    search rules

pub returns-in_err-released-clause-steps : goal.returns-in_err-released-clause-steps
unfolding literals_left
returns-in_err-released-clause-steps c =
    let h = left-mark _ _ _ _ c.in_ok-first.ensures.cases.0 c.in_err-released.ensures.cases (sym c.releases.ensures ∙ c.if-not-releases.false) in
    rw c.from_residual-in_err-released.ensures (h, h)

pub returns-clause-steps : goal.returns-clause-steps
unfolding literals_left
returns-clause-steps c =
    left-released _ _ _ _ c.in_ok-first.ensures.cases.0 _ _ c.in_ok-released.ensures.cases.0 (sym c.releases.ensures ∙ c.if-not-releases.false)

pub returns-clause-goes : goal.returns-clause-goes
unfolding literals_left
returns-clause-goes c =
    let h = ap length
    (left-released _ _ _ _ c.in_ok-first.ensures.cases.0 _ _ c.in_ok-released.ensures.cases.0 (sym c.releases.ensures ∙ c.if-not-releases.false)) in
    search rules
