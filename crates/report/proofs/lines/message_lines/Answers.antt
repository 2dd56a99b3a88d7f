-- `report::lines::message_lines` is safe and ends: the search goes on from the end of the message found.
use Rattle.std.proofs.Common.{arith, sym}
use Rattle.messages.proofs.Face.{next-message}
use Rattle.report.proofs.lines.message_lines.Goals as goal

pub price_lines-requires : goal.price_lines-requires
price_lines-requires g c =
    let q = next-message _ _ _ _ _ (sym c.in-Some.ensures) in
    (omega (arith, q.some), q.fits)

pub loop-m-smaller-in_ok-price_lines : goal.loop-m-smaller-in_ok-price_lines
loop-m-smaller-in_ok-price_lines g c =
    let q = next-message _ _ _ _ _ (sym c.in-Some.ensures) in
    omega (arith, q.later, q.some, q.fits)

pub loop-m-preserved-in_ok-price_lines : goal.loop-m-preserved-in_ok-price_lines
loop-m-preserved-in_ok-price_lines g c =
    let q = next-message _ _ _ _ _ (sym c.in-Some.ensures) in
    let i = c.loop-m.invariant in
    (omega (arith, i.0, q.later, q.some), q.fits)

pub loop-m-smaller : goal.loop-m-smaller
loop-m-smaller g c =
    let q = next-message _ _ _ _ _ (sym c.in-Some.ensures) in
    omega (arith, q.later, q.some, q.fits)

pub loop-m-preserved : goal.loop-m-preserved
loop-m-preserved g c =
    let q = next-message _ _ _ _ _ (sym c.in-Some.ensures) in
    let i = c.loop-m.invariant in
    (omega (arith, i.0, q.later, q.some), q.fits)
