-- `verdict::kept::keep` meets its contract: one law for each role.
use Rattle.std.proofs.Common.{◌≡◌, ◌⊎◌, inl, inr, ap, false}
use Rattle.verdict.specs.declared.roles.Role.{Role}
use Rattle.verdict.specs.declared.roles.Role.TheVariants.{Unt, Other}
use Rattle.verdict.specs.workers.Segments.{is_lin, is_unh, is_bgm}
use Rattle.verdict.proofs.kept.Noting.{after_line, after_document, after_beginning, after_another}
use Rattle.verdict.proofs.kept.keep.Goals as goal

pub returns-in-Lin : goal.returns-in-Lin
returns-in-Lin c =
    let a = c.args in
    let each = after_line a.d.syntax a.d.bytes.now a.came.now a.found a.kept c.in-Lin.is _ _ c.doubt_after.ensures in
    record { value = each.0; undoubted_by = each.1 }

pub returns-in-Bgm : goal.returns-in-Bgm
returns-in-Bgm c =
    let a = c.args in
    let each = after_document a.d.syntax a.d.bytes.now a.came.now a.found a.kept c.in-Bgm.is _ c.intervals_after.ensures in
    record { value = each.0; undoubted_by = each.1 }

pub returns-in-Unh : goal.returns-in-Unh
returns-in-Unh c =
    let a = c.args in
    let each = after_beginning a.d.syntax a.d.bytes.now a.came.now a.found a.kept c.in-Unh.is in
    record { value = each.0; undoubted_by = each.1 }

-- after the other roles only the node is kept
only_node : (r : Role) → (r ≡ Unt) ⊎ (r ≡ Other) → (is_lin r ≡ false) × (is_unh r ≡ false) × (is_bgm r ≡ false)
only_node r (inl e) = (ap is_lin e, ap is_unh e, ap is_bgm e)
only_node r (inr e) = (ap is_lin e, ap is_unh e, ap is_bgm e)

pub returns-in-Unt : goal.returns-in-Unt
returns-in-Unt c =
    let a = c.args in
    let w = only_node a.found.role c.in-Unt.is in
    let each = after_another a.d.syntax a.d.bytes.now a.came.now a.found a.kept w.0 w.1 w.2 in
    record { value = each.0; undoubted_by = each.1 }
