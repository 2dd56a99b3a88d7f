-- `element::scan::component_from` meets its contract: the bytes before the first that ends something or is the release mark are the component's own, and
-- each counts. Assumes nothing.
use Prim.Native.Nat.{ℕ, ◌+◌}
use mathlib.Core.Logic.{inl, inr}
use mathlib.Core.Path.{ap}
use native.Mathlib.Omega.{arith}
use Rattle.bytewise.specs.Bytes.{part}
use Rattle.plain.proofs.Decoding.{count-within}
use Rattle.element.proofs.scan.Extents.{extent-empty, extent-first, extent-plain, reached-service, mark-within, reached-mark}
use Rattle.element.proofs.scan.component_from.Goals as goal
use Rattle.element.proofs.scan.component_from.Goals.{else-i-limit-via-then-i-limit+else-d-i, else-i-limit-via-else-i-limit}

pub returns-then-limit-from : goal.returns-then-limit-from
returns-then-limit-from c = extent-empty _ _ _ _ _ c.limit_of-limit.ensures c.if-limit-from.true

pub overflow_add-stop : goal.overflow_add-stop
unfolding part
overflow_add-stop c =
    let first = extent-first _ _ _ _ _ c.limit_of-limit.ensures c.if-limit-from.false _ c.first_that-i.ensures in
    let reached = reached-service _ _ _ _ _ c.limit_of-limit.ensures _ first c.if-i-limit.true in
    let m = mark-within _ _ _ _ _ _ reached c.if-i-limit.true _ (ap (λ (n : ℕ). c.first_that-i.result + n) c.released_length.ensures) in
    omega arith

pub overflow_add-result : goal.overflow_add-result
unfolding part
overflow_add-result c =
    let first = extent-first _ _ _ _ _ c.limit_of-limit.ensures c.if-limit-from.false _ c.first_that-i.ensures in
    let reached = reached-service _ _ _ _ _ c.limit_of-limit.ensures _ first c.if-i-limit.true in
    let m = mark-within _ _ _ _ _ _ reached c.if-i-limit.true _ (ap (λ (n : ℕ). c.first_that-i.result + n) c.released_length.ensures) in
    let k = count-within _ _ _ _ _ c.plain_length.ensures in
    omega arith

pub returns-then-d-i : goal.returns-then-d-i
unfolding part
returns-then-d-i c =
    let first = extent-first _ _ _ _ _ c.limit_of-limit.ensures c.if-limit-from.false _ c.first_that-i.ensures in
    let reached = reached-service _ _ _ _ _ c.limit_of-limit.ensures _ first c.if-i-limit.true in
    reached-mark _ _ _ _ _ _ reached c.if-i-limit.true _ (ap (λ (n : ℕ). c.first_that-i.result + n) c.released_length.ensures) _ c.plain_length.ensures

pub returns : goal.returns
returns c =
    extent-plain _ _ _ _ _ c.limit_of-limit.ensures c.if-limit-from.false _ c.first_that-i.ensures (
    elim c.else-i-limit.branch [
      | else-i-limit-via-then-i-limit+else-d-i w ↦ inr w.if-d-i.false
      | else-i-limit-via-else-i-limit w ↦ inl w.if-i-limit.false
    ])
