-- `messages::tags::cut_tag` meets its contract.
use mathlib.Core.Path.{sym, ◌∙◌}
use Rattle.bytewise.specs.Bytes.{part}
use Rattle.cut.proofs.First.{cutting}
use Rattle.messages.proofs.walks.Tagging.{tag_cut, tag_uncut}
use borrow.Author.Rules.{rules}
use Rattle.messages.proofs.tags.cut_tag.Goals as goal

pub slice_bounds-of-count : goal.slice_bounds-of-count
slice_bounds-of-count c =
    let q = cutting _ _ _ _ _ _ _ (sym c.cut_at.ensures ∙ c.in-Some.is) in
    search rules

pub slice_bounds-of-start : goal.slice_bounds-of-start
slice_bounds-of-start c =
    let q = cutting _ _ _ _ _ _ _ (sym c.cut_at.ensures ∙ c.in-Some.is) in
    search rules

pub slice_bounds-of-end : goal.slice_bounds-of-end
slice_bounds-of-end c =
    let q = cutting _ _ _ _ _ _ _ (sym c.cut_at.ensures ∙ c.in-Some.is) in
    search rules

pub returns-in-Some : goal.returns-in-Some
unfolding part
returns-in-Some c = tag_cut _ _ _ _ _ _ _ (sym c.cut_at.ensures ∙ c.in-Some.is) c.of.ensures

pub returns-in-None : goal.returns-in-None
returns-in-None c = tag_uncut _ _ _ (sym c.cut_at.ensures ∙ c.in-None.is)
