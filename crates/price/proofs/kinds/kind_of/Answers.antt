-- `price::kinds::kind_of` meets its contract.
use mathlib.Core.Path.{sym, ◌∙◌}
use Rattle.price.specs.Listing.{kind_of}
use Rattle.price.proofs.kinds.kind_of.Goals as goal

pub returns-then-begins_with : goal.returns-then-begins_with
unfolding kind_of
returns-then-begins_with c =
    rw (sym c.begins_with.ensures ∙ c.if-begins_with.true)

pub returns-then-begins_with-2 : goal.returns-then-begins_with-2
unfolding kind_of
returns-then-begins_with-2 c =
    rw (
      sym c.begins_with.ensures ∙ c.if-begins_with.false,
      sym c.begins_with-else-begins_with.ensures ∙ c.if-begins_with-2.true,
    )

pub returns-then-begins_with-3 : goal.returns-then-begins_with-3
unfolding kind_of
returns-then-begins_with-3 c =
    rw (
      sym c.begins_with.ensures ∙ c.if-begins_with.false,
      sym c.begins_with-else-begins_with.ensures ∙ c.if-begins_with-2.false,
      sym c.begins_with-else-begins_with-2.ensures ∙ c.if-begins_with-3.true,
    )

pub returns-else-begins_with-3 : goal.returns-else-begins_with-3
unfolding kind_of
returns-else-begins_with-3 c =
    rw (
      sym c.begins_with.ensures ∙ c.if-begins_with.false,
      sym c.begins_with-else-begins_with.ensures ∙ c.if-begins_with-2.false,
      sym c.begins_with-else-begins_with-2.ensures ∙ c.if-begins_with-3.false,
    )
