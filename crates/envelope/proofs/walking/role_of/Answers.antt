-- `envelope::walking::role_of` meets its contract: one law for each tag.
use Rattle.std.proofs.Common.{sym, ◌∙◌}
use Rattle.envelope.proofs.walks.Tags.{tag-unh, tag-unt, tag-unz, tag-other, role-outside}
use Rattle.envelope.proofs.walking.role_of.Goals as goal
use Rattle.envelope.proofs.walking.role_of.Goals.{else-is_within-2-via-then-is_within-2+else-not-begins_with, else-is_within-2-via-else-is_within-2}

pub returns-then-begins_with : goal.returns-then-begins_with
returns-then-begins_with c = rw (tag-unh _ (sym c.begins_with.ensures ∙ c.if-begins_with.true))

pub returns-then-is_within : goal.returns-then-is_within
returns-then-is_within c =
    rw (
      tag-unt _ (sym c.begins_with.ensures ∙ c.if-begins_with.false) (sym c.begins_with-2.ensures ∙ c.if-begins_with-2.true),
      sym c.is_within.ensures ∙ c.if-is_within.true,
    )

pub returns-else-is_within : goal.returns-else-is_within
returns-else-is_within c =
    rw (
      tag-unt _ (sym c.begins_with.ensures ∙ c.if-begins_with.false) (sym c.begins_with-2.ensures ∙ c.if-begins_with-2.true),
      sym c.is_within.ensures ∙ c.if-is_within.false,
    )

pub returns-then-not-begins_with : goal.returns-then-not-begins_with
returns-then-not-begins_with c =
    rw (
      tag-other _ (sym c.begins_with.ensures ∙ c.if-begins_with.false) (sym c.begins_with-2.ensures ∙ c.if-begins_with-2.false)
          (sym c.begins_with-then-is_within-2.ensures ∙ c.if-not-begins_with.true),
      sym c.is_within-2.ensures ∙ c.if-is_within-2.true,
    )

pub returns-else-is_within-2 : goal.returns-else-is_within-2
returns-else-is_within-2 c =
    let h = sym c.begins_with.ensures ∙ c.if-begins_with.false in
    let t = sym c.begins_with-2.ensures ∙ c.if-begins_with-2.false in
    elim c.else-is_within-2.branch [
      | else-is_within-2-via-then-is_within-2+else-not-begins_with w ↦
          rw (tag-unz _ h t (sym w.begins_with-then-is_within-2.ensures ∙ w.if-not-begins_with.false))
      | else-is_within-2-via-else-is_within-2 w ↦ rw (sym c.is_within-2.ensures ∙ w.if-is_within-2.false) (role-outside _ h t)
    ]
