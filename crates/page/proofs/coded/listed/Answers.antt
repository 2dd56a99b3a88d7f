-- `page::coded::listed` meets its contract: a row without codes, and the search by the component's number.
use mathlib.Core.Path.{refl}
use native.Mathlib.Omega.{arith}
use Rattle.plain.proofs.Packing.{decoded-bytes}
use Rattle.page.proofs.coded.KeyCodes.{listed-any, listed-key}
use Rattle.page.proofs.coded.listed.Goals as goal

pub returns-then-many-eq0 : goal.returns-then-many-eq0
returns-then-many-eq0 c = listed-any _ _ c.if-many-eq0.true

pub returns : goal.returns
returns c =
    let a = c.args in
    listed-key _ _ (decoded-bytes a.y a.d.now a.a a.b (λ i. omega (arith, c.shared_slice_known-1.given i)))
    c.if-many-eq0.false
    _ _ _ _ c.key_of.ensures refl refl c.has_code.ensures
