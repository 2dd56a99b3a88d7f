-- `bytewise::search::first_that` meets its contract: a word with flags, a word with none, and the last bytes.
use native.Mathlib.Omega.{arith}
use Rattle.bytewise.proofs.Searching.{found_later, none_passes, first-within, found_flagged}
use Rattle.bytewise.proofs.search.first_that.Goals as goal

pub overflow_add-i : goal.overflow_add-i
overflow_add-i g c =
    let l = c.loop-i.invariant in
    let f = first-within (g.T.ByteTest.holds c.args.test.now) c.args.d.now _ c.limit_of-end.result _ l.0 l.1 _ _ (omega arith)
    (λ k. omega (arith, c.type_inv.d k)) c.eight_from.ensures c.flags-m.ensures _ c.if-m-ne0.true c.first_of.ensures in
    record { fits = omega arith }

pub returns-then-m-ne0 : goal.returns-then-m-ne0
returns-then-m-ne0 g c =
    let l = c.loop-i.invariant in
    rw (c.min.ensures, ← c.limit_of-end.ensures)
    (found_flagged (g.T.ByteTest.holds c.args.test.now) c.args.d.now _ _ _ l.0 l.1 _ _ (omega arith)
    (λ k. omega (arith, c.type_inv.d k)) c.eight_from.ensures c.flags-m.ensures _ c.if-m-ne0.true c.first_of.ensures)

pub loop-i-preserved : goal.loop-i-preserved
loop-i-preserved g c =
    let l = c.loop-i.invariant in (
      omega (arith, l.0),
      none_passes (g.T.ByteTest.holds c.args.test.now) c.args.d.now _ c.limit_of-end.result _ l.0 l.1 _ _ (omega arith)
          (λ k. omega (arith, c.type_inv.d k)) c.eight_from.ensures c.flags-m.ensures c.if-m-ne0.false,
    )

pub returns : goal.returns
returns g c =
    rw (← c.limit_of-end.ensures)
    (found_later _ _ _ _ _ c.loop-i.invariant.0 c.loop-i.invariant.1 _ c.rest_that.ensures)
