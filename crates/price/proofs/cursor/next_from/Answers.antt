-- `price::cursor::next_from` meets its contract. The loop's invariant: the next price from here is the one from the start.
use native.Mathlib.Omega.{arith}
use mathlib.Core.Path.{refl, ap, ◌∙◌}
use Rattle.std.specs.Prelude.{Some}
use Rattle.price.proofs.kinds.Tags.{is-kind, no-kind}
use Rattle.price.proofs.Cursors.{none_here, next-some, next-few, next_here, next_on}
use Rattle.price.proofs.cursor.next_from.Goals as goal

pub loop-spot-init : goal.loop-spot-init
loop-spot-init c = (c.requires, refl)

pub returns : goal.returns
returns c = none_here _ _ _ _ c.spot_at.ensures _ c.in_default.is ∙ c.loop-spot.invariant.1

pub returns-then-eq : goal.returns-then-eq
returns-then-eq c =
    ap Some c.price_here.ensures ∙ next_here _ _ _ _ c.spot_at.ensures _ c.in-Some.is _ (is-kind _ _ _ c.eq.ensures c.if-eq.true)
    ∙ c.loop-spot.invariant.1

pub moved-p-requires : goal.moved-p-requires
moved-p-requires c =
    let q = next-some _ _ _ _ c.spot_at.ensures _ c.in-Some.is in
    omega (arith, q.0, q.1, c.loop-spot.invariant.0)

pub loop-spot-smaller : goal.loop-spot-smaller
loop-spot-smaller c =
    let q = next-some _ _ _ _ c.spot_at.ensures _ c.in-Some.is in
    omega (arith, q.0, q.1)

pub loop-spot-preserved : goal.loop-spot-preserved
loop-spot-preserved c =
    rw c.moved-p.ensures (
      next-few _ _ _ _ c.spot_at.ensures _ c.in-Some.is _ c.loop-spot.invariant.0,
      next_on _ _ _ _ c.spot_at.ensures _ c.in-Some.is _ (no-kind _ _ _ c.eq.ensures c.if-eq.false) ∙ c.loop-spot.invariant.1,
    )
