-- `cut::begins::follows_end` meets its contract.
use mathlib.Core.Path.{sym, ◌∙◌, ap}
use mathlib.Core.Bool.{not}
use borrow.Author.Rules.{rules}
use Rattle.cut.proofs.Backing.{backs}
use Rattle.cut.proofs.cutting.Boundaries.{closed-first, closed-not, closed-by}
use Rattle.cut.proofs.begins.follows_end.Goals as goal

pub returns-then-end-first : goal.returns-then-end-first
returns-then-end-first c = sym ((backs _ _ _ _ _ c.before_breaks-end.ensures).same ∙ closed-first _ _ _ _ c.if-end-first.true)

pub bounds-d-last : goal.bounds-d-last
bounds-d-last c =
    let f = (backs _ _ _ _ _ c.before_breaks-end.ensures).fits in
    search rules

pub returns-then-d-last : goal.returns-then-d-last
returns-then-d-last c =
    let b = backs _ _ _ _ _ c.before_breaks-end.ensures in
    sym (b.same ∙ closed-not _ _ _ _ c.if-end-first.false b.fits (b.stops c.if-end-first.false) c.if-d-last.true)

pub released_at-requires : goal.released_at-requires
released_at-requires c =
    let f = (backs _ _ _ _ _ c.before_breaks-end.ensures).fits in
    search rules

pub returns : goal.returns
returns c =
    let b = backs _ _ _ _ _ c.before_breaks-end.ensures in
    ap not c.released_at.ensures ∙ sym (b.same ∙ closed-by _ _ _ _ c.if-end-first.false b.fits c.if-d-last.false)
