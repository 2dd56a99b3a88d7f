-- `value::numeral::unsigned_numeral` meets its contract: each answer is a law of `Numerals` at the runs that were read.
use mathlib.Core.Path.{sym, ap, ◌∙◌}
use Rattle.std.specs.Prelude.{Some}
use Rattle.value.specs.declared.numeral.Numeral.{Numeral}
use Rattle.value.proofs.Numerals.{no_digit, only-whole, no_mark, no_fraction, more_behind, both_sides}
use Rattle.value.proofs.numeral.unsigned_numeral.Goals as goal
use Rattle.value.proofs.numeral.unsigned_numeral.Goals.{then-fraction-eq0-via-then-fraction-eq0, then-fraction-eq0-via-else-fraction-eq0+then-is_some}

pub returns-then-whole-eq0 : goal.returns-then-whole-eq0
returns-then-whole-eq0 c = no_digit _ _ _ _ _ c.digits-whole.ensures c.if-whole-eq0.true

pub returns-in_default : goal.returns-in_default
returns-in_default c =
    ap (λ (n : Numeral). Some n) c.counted.ensures ∙ only-whole _ _ _ _ _ c.digits-whole.ensures c.if-whole-eq0.false c.in_default.is

pub returns-then-mark-y : goal.returns-then-mark-y
returns-then-mark-y c = no_mark _ _ _ _ _ c.digits-whole.ensures _ c.in-Some.is c.if-mark-y.true

pub returns-then-fraction-eq0 : goal.returns-then-fraction-eq0
returns-then-fraction-eq0 c =
    elim c.then-fraction-eq0.branch [
      | then-fraction-eq0-via-then-fraction-eq0 w ↦
          no_fraction _ _ _ _ _ c.digits-whole.ensures _ c.in-Some.is _ _ c.digits-fraction.ensures w.if-fraction-eq0.true
      | then-fraction-eq0-via-else-fraction-eq0+then-is_some w ↦
          more_behind _ _ _ _ _ c.digits-whole.ensures _ c.in-Some.is _ _ c.digits-fraction.ensures (sym w.is_some.ensures ∙ w.if-is_some.true)
    ]

pub returns : goal.returns
returns c =
    ap (λ (n : Numeral). Some n) c.counted-2.ensures
    ∙ both_sides _ _ _ _ _ c.digits-whole.ensures _ c.in-Some.is _ _ c.digits-fraction.ensures c.if-whole-eq0.false c.if-mark-y.false c.if-fraction-eq0.false
    (sym c.is_some.ensures ∙ c.if-is_some.false)
