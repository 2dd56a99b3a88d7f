-- `agree::runs::meets_run` meets its contract.
use Rattle.std.proofs.Common.{rules, ◌∙◌}
use contract.BorrowLft.{⊑_meet, ⊑_static}
use Rattle.agree.proofs.earlier.Search.{meets_listed}
use Rattle.agree.proofs.runs.meets_run.Goals as goal

pub returns : goal.returns
returns c = c.any_position.ensures ∙ meets_listed _ _ _

pub any_position-requires : goal.any_position-requires
any_position-requires c = λ k l. (
  let captured =
      ⊑_meet _ _ _ (⊑_meet _ _ _ l.0 (⊑_meet _ _ _ (⊑_meet _ _ _ l.1.0 (⊑_static _)) (⊑_static _)))
      (⊑_meet _ _ _ (⊑_meet _ _ _ l.1.1.0 (⊑_static _))
      (⊑_meet _ _ _ (⊑_meet _ _ _ l.1.1.1.0 (⊑_static _)) (⊑_meet _ _ _ (⊑_meet _ _ _ l.1.1.1.1.0 (⊑_static _)) (⊑_static _)))) in
      ⊑_meet _ _ _ captured captured,
  (search rules, λ h b p. search rules),
)
