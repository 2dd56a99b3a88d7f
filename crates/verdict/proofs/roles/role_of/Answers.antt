-- `verdict::roles::role_of` meets its contract: each arm is computed from the tables, and the last holds for all rows but these.
use mathlib.Core.Path.{refl}
use Rattle.plain.specs.Plain.{same}
use Rattle.guide.specs.Pricat.{pricat20d, pricat20c}
use Rattle.guide.specs.Sheet.{is_tag}
use Rattle.verdict.specs.workers.Segments.{role_of}
use Rattle.verdict.proofs.roles.RoleTags.{role-at, role-either, role-both, other-by}
use Rattle.verdict.proofs.roles.role_of.Goals as goal

pub returns-in_default-eq1 : goal.returns-in_default-eq1
unfolding role_of is_tag same pricat20d pricat20c
returns-in_default-eq1 c = role-both _ _ _ _ c.in_default-eq1.is-1 refl refl

pub returns-in_default-eq2 : goal.returns-in_default-eq2
unfolding role_of is_tag same pricat20d pricat20c
returns-in_default-eq2 c = role-both _ _ _ _ c.in_default-eq2.is-1 refl refl

pub returns-in-D-eq26 : goal.returns-in-D-eq26
unfolding role_of is_tag same pricat20d
returns-in-D-eq26 c = role-at _ _ _ _ _ c.in-D-eq26.is-0 c.in-D-eq26.is-1 refl

pub returns-in-D-eq26-2 : goal.returns-in-D-eq26-2
unfolding role_of is_tag same pricat20c
returns-in-D-eq26-2 c = role-at _ _ _ _ _ c.in-D-eq26.is-0 c.in-D-eq26.is-1 refl

pub returns-in-D-eq16 : goal.returns-in-D-eq16
unfolding role_of is_tag same pricat20d
returns-in-D-eq16 c = role-either _ _ _ _ _ _ c.in-D-eq16.is-0 c.in-D-eq16.is-1 refl refl

pub returns-in-D-eq16-2 : goal.returns-in-D-eq16-2
unfolding role_of is_tag same pricat20c
returns-in-D-eq16-2 c = role-either _ _ _ _ _ _ c.in-D-eq16.is-0 c.in-D-eq16.is-1 refl refl

-- a row of the other edition
pub returns-in_default : goal.returns-in_default
unfolding role_of is_tag same pricat20c
returns-in_default c = role-either _ _ _ _ _ _ c.in_default.is-0 c.in_default.is-1 refl refl

pub returns-in_default-2 : goal.returns-in_default-2
unfolding role_of is_tag same pricat20d
returns-in_default-2 c = role-either _ _ _ _ _ _ c.in_default.is-0 c.in_default.is-1 refl refl

pub returns-in_default-3 : goal.returns-in_default-3
unfolding role_of is_tag same pricat20c
returns-in_default-3 c = role-at _ _ _ _ _ c.in_default.is-0 c.in_default.is-1 refl

pub returns-in_default-4 : goal.returns-in_default-4
unfolding role_of is_tag same pricat20d
returns-in_default-4 c = role-at _ _ _ _ _ c.in_default.is-0 c.in_default.is-1 refl

pub returns-in_default-5 : goal.returns-in_default-5
unfolding same pricat20d pricat20c
returns-in_default-5 c = other-by _ c.in_default.is-1 refl refl _
