-- `page::examining::examined` meets its contract: by the node's word, for a part with or without a byte.
use mathlib.Core.Path.{◌∙◌, refl}
use native.Mathlib.Omega.{arith}
use Rattle.guide.proofs.Reasons.{number-some, numbered-err}
use Rattle.page.proofs.places.Results.{own-word, examined_absent, examined_none, examined_some}
use Rattle.page.proofs.examining.examined.Goals as goal

pub absent-requires : goal.absent-requires
absent-requires c = own-word _ _ c.node_word-page.ensures

pub returns-in_err-absent : goal.returns-in_err-absent
returns-in_err-absent c =
    numbered-err _ _ c.from_residual.ensures.1
    ∙ examined_absent _ _ c.node_word-page.ensures _ _ _ _ _ c.limit_of-limit.ensures c.if-limit-start.true _ c.in_err-absent.ensures (number-some _)

pub returns-then-limit-start : goal.returns-then-limit-start
returns-then-limit-start c =
    examined_none _ _ c.node_word-page.ensures _ _ _ _ _ c.limit_of-limit.ensures c.if-limit-start.true _ c.in_ok-absent.ensures refl _
    c.nowhere.ensures

pub pass-requires : goal.pass-requires
pass-requires c = (c.if-limit-start.false, omega (arith, c.limit_of-limit.ensures), own-word _ _ c.node_word-page.ensures)

pub returns : goal.returns
returns c =
    examined_some _ _ c.node_word-page.ensures _ _ _ _ _ c.limit_of-limit.ensures _ c.pass.ensures
