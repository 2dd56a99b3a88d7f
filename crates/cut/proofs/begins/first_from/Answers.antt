-- `cut::begins::first_from` meets its contract.
use mathlib.Core.Path.{sym, ◌∙◌}
use Rattle.cut.proofs.cutting.Boundaries.{since-closed}
use Rattle.cut.proofs.Places.{since-opening, since_end, since_cut, since-nothing}
use borrow.Author.Rules.{rules}
use Rattle.cut.proofs.begins.first_from.Goals as goal

pub returns-then-from-first : goal.returns-then-from-first
returns-then-from-first c = since-opening _ _ _ _ c.if-from-first.true

pub returns-then-d-from : goal.returns-then-d-from
returns-then-d-from c = since_end _ _ _ _ _ c.if-d-from.true (search rules)

pub returns-then-follows_end : goal.returns-then-follows_end
returns-then-follows_end c =
    since-closed _ _ _ _ (search rules) (search rules) (sym c.follows_end.ensures ∙ c.if-follows_end.true)

pub returns-in-Some : goal.returns-in-Some
returns-in-Some c =
    since_cut _ _ _ _ _ _ _ _ (search rules) (search rules)
    (sym c.follows_end.ensures ∙ c.if-follows_end.false)
    c.released_at.ensures
    (sym c.cut_from.ensures ∙ c.in-Some.is)

pub returns-in-None : goal.returns-in-None
returns-in-None c =
    since-nothing _ _ _ _ _ (search rules) (search rules)
    (sym c.follows_end.ensures ∙ c.if-follows_end.false)
    c.released_at.ensures
    (sym c.cut_from.ensures ∙ c.in-None.is)
