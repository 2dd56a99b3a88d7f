-- `verdict::faults::rule_fault` meets its contract: UNT, LIN, or neither.
use Rattle.std.proofs.Common.{◌≡◌, ◌⊎◌, inl, inr, ap, false}
use Rattle.verdict.specs.declared.roles.Role.{Role}
use Rattle.verdict.specs.declared.roles.Role.TheVariants.{Unh, Bgm, Other}
use Rattle.verdict.specs.workers.Segments.{is_lin, is_unt}
use Rattle.verdict.proofs.faults.Numbers.{numbered, rule_end, rule_line, no_line-fault, no_rule}
use Rattle.verdict.proofs.faults.rule_fault.Goals as goal

pub returns-in-Unt : goal.returns-in-Unt
returns-in-Unt c = rule_end c.args.edition _ _ _ _ _ c.in-Unt.is _ c.end_fault.ensures

pub returns-then-not-is_numbered : goal.returns-then-not-is_numbered
returns-then-not-is_numbered c =
    rule_line c.args.edition _ _ _ _ _ c.in-Lin.is _ (numbered _ _ _ _ c.is_numbered.ensures c.requires.d_value)
    c.if-not-is_numbered.true

pub returns-else-not-is_numbered : goal.returns-else-not-is_numbered
returns-else-not-is_numbered c =
    no_line-fault c.args.edition _ _ _ _ _ c.in-Lin.is _ (numbered _ _ _ _ c.is_numbered.ensures c.requires.d_value)
    c.if-not-is_numbered.false

-- of the other roles none has a rule
without_rule : (r : Role) → (r ≡ Unh) ⊎ ((r ≡ Bgm) ⊎ (r ≡ Other)) → (is_unt r ≡ false) × (is_lin r ≡ false)
without_rule r (inl e) = (ap is_unt e, ap is_lin e)
without_rule r (inr (inl e)) = (ap is_unt e, ap is_lin e)
without_rule r (inr (inr e)) = (ap is_unt e, ap is_lin e)

pub returns-in-Unh : goal.returns-in-Unh
returns-in-Unh c =
    let w = without_rule c.args.role c.in-Unh.is in
    no_rule c.args.edition _ _ _ _ _ w.0 w.1
