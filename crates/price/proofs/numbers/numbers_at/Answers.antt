-- `price::numbers::numbers_at` meets its contract.
use Prim.Native.Nat.{◌-◌, ◌^◌, ◌<◌}
use native.Mathlib.Omega.{arith}
use Rattle.price.proofs.numbers.Answers.{kept, price-read, component-bounds, numbers-made}
use Rattle.price.proofs.numbers.numbers_at.Goals as goal

pub article_place-requires : goal.article_place-requires
article_place-requires c =
    let w = component-bounds _ _ _ _ _ _ _ c.component_at-a.ensures in
    omega (arith, w.ordered, w.to)

pub overflow_sub-result : goal.overflow_sub-result
overflow_sub-result c = (component-bounds _ _ _ _ _ _ _ c.component_at-a.ensures).ordered

pub overflow_cast-result-2 : goal.overflow_cast-result-2
overflow_cast-result-2 c =
    let w = component-bounds _ _ _ _ _ _ _ c.component_at-a.ensures in
    record { sfits = omega (arith, w.from, w.ordered, w.to) }

pub returns : goal.returns
returns c =
    let w = component-bounds _ _ _ _ _ _ _ c.component_at-a.ensures in
    let f : c.args.p.number < 2 ^ 63 = omega arith in
    let l : c.component_at-a.result.end - c.component_at-a.result.start < 2 ^ 63 = omega (arith, w.from, w.ordered, w.to) in
    let m : c.args.spot.start < 2 ^ 63 = omega arith in
    numbers-made _ _ _ _ _ _ _ _ _ _ _ _ _ f l m c.component_at-a.ensures
    (price-read _ _ _ _ _ _ c.component_at-s.ensures c.number_of-n.ensures)
    (kept _ _ (record { sfits = c.article_place.type_inv }) c.article_place.ensures)
    (kept _ _ (record { sfits = c.amount_in.type_inv }) c.amount_in.ensures)
    (kept _ _ (record { sfits = c.decimals_in.type_inv }) c.decimals_in.ensures)
    (kept _ _ (record { sfits = c.unit_in.type_inv }) c.unit_in.ensures)
    (kept _ _ (record { sfits = c.rng_place.type_inv }) c.rng_place.ensures)
