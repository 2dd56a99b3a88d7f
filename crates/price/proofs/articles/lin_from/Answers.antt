-- `price::articles::lin_from` meets its contract. The loop's invariant: `Seeking`.
use native.Mathlib.Omega.{arith}
use Prim.Native.Nat.{◌+◌}
use mathlib.Core.Path.{◌≡◌, sym, ◌∙◌}
use Rattle.price.proofs.kinds.Tags.{is-kind, no-kind}
use Rattle.price.proofs.spots.Steps.{adds_one, adds_none}
use Rattle.price.proofs.articles.Seeking.{seeking_first, seeking_none, seeking_some, seeking_found, seeking_on}
use Rattle.price.proofs.articles.lin_from.Goals as goal
use Rattle.price.proofs.articles.lin_from.Goals.{then-eq+else-left-eq0, else-eq}

pub loop-spot-init : goal.loop-spot-init
loop-spot-init c = rw c.first-p.ensures (seeking_first _ _ _ _)

pub returns : goal.returns
returns c = seeking_none _ _ _ _ _ _ _ c.loop-spot.invariant _ c.spot_at.ensures c.in_default.is

pub returns-then-left-eq0 : goal.returns-then-left-eq0
returns-then-left-eq0 c =
    seeking_found _ _ _ _ _ _ _ c.loop-spot.invariant _ c.spot_at.ensures _ c.in-Some.is
    (is-kind _ _ _ c.eq.ensures c.if-eq.true) c.if-left-eq0.true

pub moved-p-requires : goal.moved-p-requires
moved-p-requires c =
    let q = seeking_some _ _ _ _ _ _ _ c.loop-spot.invariant _ c.spot_at.ensures _ c.in-Some.is in
    omega (arith, q.0, q.1, c.loop-spot.invariant.stands.number)

pub loop-spot-smaller : goal.loop-spot-smaller
loop-spot-smaller c =
    let q = seeking_some _ _ _ _ _ _ _ c.loop-spot.invariant _ c.spot_at.ensures _ c.in-Some.is in
    omega (arith, q.0, q.1)

pub loop-spot-preserved : goal.loop-spot-preserved
loop-spot-preserved c =
    elim c.if-eq.branch [
      | then-eq+else-left-eq0 w ↦
          let l : c.loop-spot.left ≡ c.if-eq.left + 1 = omega arith in
          seeking_on _ _ _ _ _ _ _ c.loop-spot.invariant _ c.spot_at.ensures _ c.in-Some.is c.if-eq.left _
          (l ∙ adds_one _ _ (is-kind _ _ _ c.eq.ensures w.if-eq.true)) c.moved-p.ensures
      | else-eq w ↦
          seeking_on _ _ _ _ _ _ _ c.loop-spot.invariant _ c.spot_at.ensures _ c.in-Some.is c.if-eq.left _
          (sym w.left-is ∙ adds_none _ _ (no-kind _ _ _ c.eq.ensures w.if-eq.false)) c.moved-p.ensures
    ]
