-- `cut::breaks::past_breaks` meets its contract.
use Prim.Native.Nat.{◌≤◌}
use mathlib.Core.Path.{◌≡◌, refl, sym, ◌∙◌}
use native.Mathlib.Decide.{dec_le}
use native.Mathlib.Omega.{arith}
use lib.ListN.{length}
use Rattle.cut.specs.Segments.{past_at}
use Rattle.cut.proofs.Ahead.{past_end, past-here, past_on}
use Rattle.cut.proofs.breaks.past_breaks.Goals as goal

pub loop-i-init : goal.loop-i-init
loop-i-init c = refl

pub returns-then-not-is_break : goal.returns-then-not-is_break
returns-then-not-is_break c =
    sym (c.loop-i.invariant ∙ past-here _ _ _ c.loop-i-test.true (sym c.is_break.ensures ∙ c.if-not-is_break.true))

pub loop-i-preserved : goal.loop-i-preserved
loop-i-preserved c =
    c.loop-i.invariant ∙ past_on _ _ _ c.loop-i-test.true (sym c.is_break.ensures ∙ c.if-not-is_break.false)

pub returns : goal.returns
returns c = go (dec_le c.args.at (length c.args.d.bytes.now))
  where
    go : Dec (c.args.at ≤ length c.args.d.bytes.now) → c.max.result ≡ past_at c.args.d.syntax c.args.d.bytes.now c.args.at
    go (yes h) =
        let i = c.loop-i.auto.i-end h in
        omega (arith, c.loop-i.invariant ∙ past_end _ _ _ c.loop-i-test.false)
    go (no h) = omega (arith, past_end c.args.d.syntax c.args.d.bytes.now c.args.at (omega arith))
