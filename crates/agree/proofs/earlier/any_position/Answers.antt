-- `agree::earlier::any_position` meets its contract. The loop's invariant: the segments that are left give the answer.
use Rattle.std.proofs.Common.{◌≡◌, ◌<◌, ◌-◌, ◌+◌, true, false, sym, ◌∙◌, arith}
use Rattle.agree.specs.workers.Parts.{EntryAt}
use Rattle.agree.proofs.earlier.Search.{any_none, any_out, any_here, any_on, any_past}
use Rattle.agree.proofs.earlier.any_position.Goals as goal
use Rattle.agree.proofs.earlier.any_position.Goals.{in_default-position-2, in_default-position}

pub returns-in_default : goal.returns-in_default
returns-in_default g c = sym (any_none g.passes _ _ (rw c.in_default.is at c.entry_at.ensures)) ∙ c.loop-passed.invariant

pub returns-in-Some-position : goal.returns-in-Some-position
returns-in-Some-position g c =
    let q : EntryAt c.args.d.syntax c.args.d.bytes.now c.loop-passed.at c.in-Some.entry = rw c.in-Some.is at c.entry_at.ensures in
    let some : 0 < c.args.n - c.loop-passed._passed = omega arith in
    let t = c.requires.1.1 c.in-Some-position.h true (rw c.if-test.true at c.test.ensures) in
    sym (any_here g.passes _ _ _ _ _ q some _ c.in-Some-position.is (sym t)) ∙ c.loop-passed.invariant

pub loop-passed-preserved : goal.loop-passed-preserved
loop-passed-preserved g c =
    let q : EntryAt c.args.d.syntax c.args.d.bytes.now c.loop-passed.at c.in-Some.entry = rw c.in-Some.is at c.entry_at.ensures in
    let some : 0 < c.args.n - c.loop-passed._passed = omega arith in
    let z : c.args.n - (c.loop-passed._passed + 1) ≡ c.args.n - c.loop-passed._passed - 1 = omega arith in
    elim c.match-entry.branch [
      | in_default-position-2 w ↦
          let t = c.requires.1.1 w.in-Some-position.h false (rw w.if-test.false at w.test.ensures) in
          rw (z, w.at-is) (sym (any_on g.passes _ _ _ _ _ q some _ w.in-Some-position.is (sym t)) ∙ c.loop-passed.invariant)
      | in_default-position w ↦
          rw (z, w.at-is) (sym (any_past g.passes _ _ _ _ _ q some w.in_default-position.is) ∙ c.loop-passed.invariant)
    ]

pub returns : goal.returns
returns g c = sym (any_out g.passes _ _ (omega arith)) ∙ c.loop-passed.invariant
