-- `agree::agreement::segments_agree` meets its contract. The loop's invariant: the walk from here on gives the answer.
use mathlib.Core.Path.{◌≡◌, sym, ◌∙◌}
use mathlib.Core.Bool.{true, false}
use Rattle.agree.proofs.agreement.Walk.{more_left, walk_begins, walk_ended, walk-differs, walk_on, walk_less}
use Rattle.agree.proofs.agreement.segments_agree.Goals as goal
use Rattle.agree.proofs.agreement.segments_agree.Goals.{then-is_some, else-is_some+then-is_some-2}

pub loop-v-init : goal.loop-v-init
loop-v-init c =
    walk_begins _ _ _ _ _ _ _ _ _ _ _ c.new.ensures c.new-2.ensures c.step-u.ensures c.step-v.ensures

pub returns-then-not-same_plain : goal.returns-then-not-same_plain
returns-then-not-same_plain c =
    let more : more_left c.loop-v.u c.loop-v.v ≡ true =
    elim c.if-is_some.branch [
      | then-is_some w ↦ rw (sym c.is_some.ensures ∙ w.if-is_some.true)
      | else-is_some+then-is_some-2 w ↦ rw (sym c.is_some.ensures ∙ w.if-is_some.false, sym w.is_some-else-is_some.ensures ∙ w.if-is_some-2.true)
    ] in
    sym
    (walk-differs _ _ _ _ _ more _ _ _ c.shown-s.ensures c.shown-t.ensures c.same_plain.ensures c.if-not-same_plain.true)
    ∙ c.loop-v.invariant

pub loop-v-smaller : goal.loop-v-smaller
loop-v-smaller c =
    let more : more_left c.loop-v.u c.loop-v.v ≡ true =
    elim c.if-is_some.branch [
      | then-is_some w ↦ rw (sym c.is_some.ensures ∙ w.if-is_some.true)
      | else-is_some+then-is_some-2 w ↦ rw (sym c.is_some.ensures ∙ w.if-is_some.false, sym w.is_some-else-is_some.ensures ∙ w.if-is_some-2.true)
    ] in
    walk_less _ _ _ _ _ _ more c.onward.ensures c.onward-in-loop-v.ensures

pub loop-v-preserved : goal.loop-v-preserved
loop-v-preserved c =
    let more : more_left c.loop-v.u c.loop-v.v ≡ true =
    elim c.if-is_some.branch [
      | then-is_some w ↦ rw (sym c.is_some.ensures ∙ w.if-is_some.true)
      | else-is_some+then-is_some-2 w ↦ rw (sym c.is_some.ensures ∙ w.if-is_some.false, sym w.is_some-else-is_some.ensures ∙ w.if-is_some-2.true)
    ] in
    sym
    (walk_on _ _ _ _ _ more _ _ _ _ _
    c.shown-s.ensures c.shown-t.ensures c.same_plain.ensures c.if-not-same_plain.false c.onward.ensures c.onward-in-loop-v.ensures)
    ∙ c.loop-v.invariant

pub returns : goal.returns
returns c =
    let none : more_left c.loop-v.u c.loop-v.v ≡ false =
    rw (sym c.is_some.ensures ∙ c.if-is_some.false, sym c.is_some-else-is_some.ensures ∙ c.if-is_some-2.false) in
    sym (walk_ended _ _ _ _ _ none) ∙ c.loop-v.invariant
