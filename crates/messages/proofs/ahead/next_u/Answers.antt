-- `messages::ahead::next_u` meets its contract. The loop's invariant: none of the segments up to here begins with U.
use Prim.Native.Nat.{◌≤◌}
use native.Mathlib.Nat.{le_refl}
use native.Mathlib.Omega.{arith}
use borrow.Author.Rules.{rules}
use Rattle.messages.proofs.walks.Skipping.{plain-first, plain_on, plain-inside, skipped-closed, skipped_open}
use Rattle.messages.proofs.ahead.next_u.Goals as goal

pub loop-d-init : goal.loop-d-init
loop-d-init c = (le_refl _, search rules, plain-first _ _ _)

pub returns-then-follows_end : goal.returns-then-follows_end
returns-then-follows_end c =
    let f = c.first_that-k.ensures in
    let i = c.loop-d.invariant in
    skipped-closed _ _ _ _ _ _ (omega (arith, f.onward, i.0, i.1)) (omega (arith, f.within))
    (plain_on _ _ _ _ _ i.0 i.1 i.2 f) c.follows_end.ensures c.if-follows_end.true c.before_breaks.ensures

pub returns-then-d-k : goal.returns-then-d-k
returns-then-d-k c =
    let f = c.first_that-k.ensures in
    let i = c.loop-d.invariant in
    skipped_open _ _ _ _ _ (omega (arith, f.onward, i.0, i.1)) (omega (arith, f.within)) c.if-d-k.true
    (plain_on _ _ _ _ _ i.0 i.1 i.2 f) c.follows_end.ensures c.if-follows_end.false

pub loop-d-preserved : goal.loop-d-preserved
loop-d-preserved c =
    let f = c.first_that-k.ensures in
    let i = c.loop-d.invariant in
    let n : c.args.from ≤ c.first_that-k.result = omega (arith, f.onward, i.0, i.1) in
    (omega (arith, n), omega arith, plain-inside _ _ _ _ _ n c.if-d-k.false (plain_on _ _ _ _ _ i.0 i.1 i.2 f) c.follows_end.ensures c.if-follows_end.false)
