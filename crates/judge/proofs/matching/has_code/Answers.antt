-- `judge::matching::has_code` meets its contract. The loop's invariant: the search from here on gives the answer. Assumes nothing.
use mathlib.Core.Path.{sym, ◌∙◌}
use native.Mathlib.Omega.{arith}
use Rattle.guide.specs.Editions.{guide_of}
use Rattle.judge.specs.workers.Rows.{codes_of}
use Rattle.judge.proofs.matching.Codes.{codes_fit, codes-inside, search_begins, search_found, search_next, search_out}
use Rattle.judge.proofs.matching.has_code.Goals as goal

pub overflow_add-j-end : goal.overflow_add-j-end
overflow_add-j-end c =
    let a = c.args in
    omega (arith, codes_fit a.edition, codes-inside (guide_of a.edition) a.n c.requires)

pub loop-j-init : goal.loop-j-init
loop-j-init c =
    let a = c.args in
    let h = c.requires in (
      omega (arith, codes-inside (guide_of a.edition) a.n h),
      search_begins (guide_of a.edition) a.n a.key _ _ h c.codes_from-from.ensures (omega arith),
    )

pub code-requires : goal.code-requires
code-requires c = omega arith

pub returns-then-code-key : goal.returns-then-code-key
returns-then-code-key c =
    let a = c.args in
    sym (search_found (codes_of (guide_of a.edition)) a.key _ _ c.loop-j-test.true c.loop-j.invariant.0
    (sym c.code.ensures ∙ c.if-code-key.true))
    ∙ c.loop-j.invariant.1

pub loop-j-preserved : goal.loop-j-preserved
loop-j-preserved c =
    let a = c.args in (
      c.loop-j.invariant.0,
      sym
          (search_next (codes_of (guide_of a.edition)) a.key _ _ c.loop-j-test.true c.loop-j.invariant.0
          (λ e. c.if-code-key.false (c.code.ensures ∙ e)))
          ∙ c.loop-j.invariant.1,
    )

pub returns : goal.returns
returns c =
    let a = c.args in
    sym (search_out (codes_of (guide_of a.edition)) a.key _ _ c.loop-j-test.false) ∙ c.loop-j.invariant.1
