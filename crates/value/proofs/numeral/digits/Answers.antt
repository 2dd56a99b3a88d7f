-- `value::numeral::digits` meets its contract. The loop's invariant is `Along`: what is passed and what is left make up the run.
use mathlib.Core.Path.{sym, ◌∙◌}
use Rattle.value.proofs.DigitRuns.{ascii-digit}
use Rattle.value.proofs.Running.{along_start, along_more, along_end, along_stop}
use Rattle.value.proofs.numeral.digits.Goals as goal

pub loop-x-init : goal.loop-x-init
loop-x-init c = along_start _ _ c.requires.value_bound

pub returns-then-not-is_ascii_digit : goal.returns-then-not-is_ascii_digit
returns-then-not-is_ascii_digit c =
    along_stop _ _ _ _ _ c.loop-x.invariant _ _ c.in-Some.ensures.steps
    (sym (ascii-digit _) ∙ sym c.is_ascii_digit.ensures.value ∙ c.if-not-is_ascii_digit.true)

pub pushed-sum-requires-clause-x_value : goal.pushed-sum-requires-clause-x_value
pushed-sum-requires-clause-x_value c = sym (ascii-digit _) ∙ sym c.is_ascii_digit.ensures.value ∙ c.if-not-is_ascii_digit.false

pub loop-x-preserved : goal.loop-x-preserved
loop-x-preserved c =
    along_more _ _ _ _ _ c.loop-x.invariant _ _ c.in-Some.ensures.steps
    (sym (ascii-digit _) ∙ sym c.is_ascii_digit.ensures.value ∙ c.if-not-is_ascii_digit.false)
    _ c.pushed-sum.ensures

pub returns : goal.returns
returns c = along_end _ _ _ _ _ c.loop-x.invariant c.in_default.ensures.steps.0 _ c.in_default.ensures.steps.1
