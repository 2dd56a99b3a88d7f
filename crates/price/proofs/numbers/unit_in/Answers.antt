-- `price::numbers::unit_in` meets its contract.
use native.Mathlib.Omega.{arith}
use Rattle.price.proofs.numbers.Answers.{component-bounds, unit-ann, unit-other}
use Rattle.price.proofs.numbers.Units.{price-last}
use Rattle.price.proofs.numbers.unit_in.Goals as goal

pub overflow_add-price : goal.overflow_add-price
overflow_add-price c =
    let w = component-bounds _ _ _ _ _ _ _ c.requires.1 in
    let l = c.requires.0 in
    omega (arith, w.to)

pub returns-then-end-price : goal.returns-then-end-price
returns-then-end-price c = price-last _ _ _ _ _ c.requires.1 c.if-end-price.true

pub returns-then-is_code : goal.returns-then-is_code
returns-then-is_code c = unit-ann _ _ _ _ _ _ c.component_at-s.ensures c.is_code.ensures c.if-is_code.true

pub returns : goal.returns
returns c = unit-other _ _ _ _ _ _ c.component_at-s.ensures c.is_code.ensures c.if-is_code.false
