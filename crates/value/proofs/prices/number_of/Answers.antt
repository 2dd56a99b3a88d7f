-- `value::prices::number_of` meets its contract: the numeral's amount, if it has its value.
use mathlib.Core.Path.{sym, ◌∙◌}
use native.Mathlib.Omega.{arith}
use mir.Facts.{to_z-of_z}
use mir.Syntax.{w64}
use Rattle.value.proofs.Answers.{short-bounds, number_short, number_long, number-none}
use Rattle.value.proofs.prices.number_of.Goals as goal

pub returns-in_err-n : goal.returns-in_err-n
returns-in_err-n c = c.from_residual.ensures ∙ number-none _ _ (sym c.numeral_of.ensures ∙ c.in_err-n.was)

pub returns-in_err-value : goal.returns-in_err-value
returns-in_err-value c =
    c.from_residual-in_err-value.ensures ∙ number_long _ _ _ (sym c.numeral_of.ensures ∙ c.in_ok-n.was) c.in_err-value.was

pub with_sign-requires : goal.with_sign-requires
with_sign-requires c = (short-bounds _ _ _ _ (sym c.numeral_of.ensures ∙ c.in_ok-n.was) c.in_ok-value.was).0

pub overflow_cast-result : goal.overflow_cast-result
overflow_cast-result c =
    let b = short-bounds _ _ _ _ (sym c.numeral_of.ensures ∙ c.in_ok-n.was) c.in_ok-value.was in
    omega arith

pub returns : goal.returns
returns c =
    number_short _ _ _ (sym c.numeral_of.ensures ∙ c.in_ok-n.was) _ _ c.in_ok-value.was
    (to_z-of_z {w = w64} (record { sfits = c.with_sign.type_inv }) ∙ c.with_sign.ensures)
