-- `envelope::walking::pass` meets its contract: what is kept is what its parts answer.
use Rattle.std.proofs.Common.{sym, ◌∙◌}
use borrow.Author.Rules.{rules}
use Rattle.bytewise.specs.Bytes.{part}
use Rattle.envelope.proofs.walks.Steps.{pass_is, stray_kept, stray_new}
use Rattle.envelope.proofs.walks.Tags.{role-begins, role-begins_none}
use Rattle.envelope.proofs.walking.pass.Goals as goal
use Rattle.envelope.proofs.walking.pass.Goals.{in-Begins, in_default}

pub returns-in-Outside : goal.returns-in-Outside
unfolding part
returns-in-Outside c =
    let role = sym c.role_of-role.ensures in
    pass_is _ _ _ (search rules) (search rules) _ _ _ c.role_of-role.ensures
    (elim c.match-role.branch [
      | in-Begins w ↦ rw (role-begins _ _ (role ∙ w.in-Begins.is)) w.messages-is
      | in_default w ↦ rw (role-begins_none _ _ (λ e. w.in_default.not-Begins (c.role_of-role.ensures ∙ e))) w.messages-is
    ])
    (rw c.in-Outside.is (c.or-stray.ensures ∙ stray_new _ _))

pub returns-in_default-role : goal.returns-in_default-role
unfolding part
returns-in_default-role c =
    let role = sym c.role_of-role.ensures in
    pass_is _ _ _ (search rules) (search rules) _ _ _ c.role_of-role.ensures
    (elim c.match-role.branch [
      | in-Begins w ↦ rw (role-begins _ _ (role ∙ w.in-Begins.is)) w.messages-is
      | in_default w ↦ rw (role-begins_none _ _ (λ e. w.in_default.not-Begins (c.role_of-role.ensures ∙ e))) w.messages-is
    ])
    (stray_kept _ _ _ c.in_default-role.not-Outside)
