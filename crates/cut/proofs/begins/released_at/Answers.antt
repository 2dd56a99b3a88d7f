-- `cut::begins::released_at` meets its contract: each release character passed turns the answer once.
use mathlib.Core.Path.{refl, sym, ◌∙◌}
use native.Mathlib.Omega.{arith}
use Rattle.cut.proofs.cutting.Released.{turned, run_on, run-over, run_out}
use Rattle.cut.proofs.begins.released_at.Goals as goal

pub loop-i-init : goal.loop-i-init
unfolding turned
loop-i-init c = refl

pub returns-then-not-releases : goal.returns-then-not-releases
returns-then-not-releases c =
    sym
    (c.loop-i.invariant
    ∙ run-over _ _ _ _ _ c.loop-i-test.true (omega arith) (sym c.releases.ensures ∙ c.if-not-releases.true))

pub loop-i-preserved : goal.loop-i-preserved
loop-i-preserved c =
    c.loop-i.invariant
    ∙ run_on _ _ _ _ _ c.loop-i-test.true (omega arith) (sym c.releases.ensures ∙ c.if-not-releases.false)

pub returns : goal.returns
returns c = sym (c.loop-i.invariant ∙ run_out _ _ _ _ _ c.loop-i-test.false)
