-- `judge::matching::is_chosen` meets its contract: no code to look for, or the search among them. Assumes nothing.
use mathlib.Core.Path.{sym, ◌∙◌}
use Rattle.guide.specs.Nodes.{node}
use Rattle.guide.specs.Editions.{guide_of}
use Rattle.judge.proofs.matching.Matches.{pick-any, pick-code}
use Rattle.judge.proofs.matching.is_chosen.Goals as goal

pub returns-then-codes_count-eq0 : goal.returns-then-codes_count-eq0
returns-then-codes_count-eq0 c =
    let a = c.args in
    pick-any (node (guide_of a.edition) a.n).selector.codes a.key (sym c.codes_count.ensures ∙ c.if-codes_count-eq0.true)

pub returns : goal.returns
returns c =
    let a = c.args in
    pick-code (node (guide_of a.edition) a.n).selector.codes a.key _ (λ z. c.if-codes_count-eq0.false (c.codes_count.ensures ∙ z))
    c.has_code.ensures
