-- `page::right::is_listed` meets its contract: a row without codes, and the search by the number of the bytes.
use mathlib.Core.Bool.{false≢true}
use mathlib.Core.Path.{refl, sym, ◌∙◌}
use native.Mathlib.Omega.{arith}
use Rattle.plain.proofs.Packing.{part_bytes}
use Rattle.page.proofs.coded.KeyCodes.{listed-any, listed-key}
use Rattle.page.proofs.right.is_listed.Goals as goal

pub returns-then-many-eq0 : goal.returns-then-many-eq0
returns-then-many-eq0 c h = sym (listed-any _ _ c.if-many-eq0.true)

pub returns-then-n-gt6 : goal.returns-then-n-gt6
returns-then-n-gt6 c h = absurd (false≢true h)

pub returns-then-d-lt8 : goal.returns-then-d-lt8
returns-then-d-lt8 c h = absurd (false≢true h)

pub returns-then-d-a : goal.returns-then-d-a
returns-then-d-a c h = absurd (false≢true h)

pub returns : goal.returns
returns c h =
    let a = c.args in
    sym (listed-key _ _ (part_bytes a.d.now a.a _ (λ i. omega (arith, c.shared_slice_known-1.given i))) c.if-many-eq0.false
    _ _ _ _ c.front_word.ensures refl refl c.has_code.ensures) ∙ h
