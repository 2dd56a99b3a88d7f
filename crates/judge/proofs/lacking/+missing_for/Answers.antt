-- `judge::lacking::missing_for` meets its contract: what a level lacks, else what the levels further out lack. A parent has a lower number.
use Prim.Native.Nat.{◌<◌}
use mathlib.Core.Path.{sym, ◌∙◌}
use mathlib.Core.Logic.{inl, inr}
use native.Mathlib.Omega.{arith}
use Rattle.judge.proofs.lacking.Levels.{parent_lower}
use Rattle.judge.proofs.lacking.Gaps.{gap_found, gap_root, gap_taking, gap_up}
use Rattle.judge.proofs.lacking.+missing_for.Goals as goal

pub returns-in-Some : goal.returns-in-Some
returns-in-Some t c =
    let a = c.args in
    gap_found a.edition a.counts.now a.n a.level _ (sym c.in-Some.is ∙ c.lacking_in.ensures)

pub returns-then-level-parent_of : goal.returns-then-level-parent_of
returns-then-level-parent_of t c =
    let a = c.args in
    let none = sym c.in_default.is ∙ c.lacking_in.ensures in
    elim c.then-level-parent_of.either [
      | inl taken ↦ gap_taking a.edition a.counts.now a.n a.level none _ c.parent_of.ensures taken
      | inr root ↦ gap_root a.edition a.counts.now a.n a.level none root.1
    ]

pub missing_for-requires : goal.missing_for-requires
missing_for-requires t c =
    let low = parent_lower c.args.edition c.args.level c.if-level-eq0.false c.requires.1 in
    let fall : c.parent_of-2.result < c.args.level = omega (arith, c.parent_of-2.ensures) in
    (omega (arith, c.decreases), (c.requires.0, omega (arith, c.requires.1)))

pub returns : goal.returns
returns t c =
    let a = c.args in
    gap_up a.edition a.counts.now a.n a.level (sym c.in_default.is ∙ c.lacking_in.ensures)
    _ c.parent_of.ensures c.if-level-parent_of.false c.if-level-eq0.false c.requires.1
    _ _ c.parent_of-2.ensures c.missing_for.ensures
