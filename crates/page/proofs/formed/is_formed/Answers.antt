-- `page::formed::is_formed` meets its contract: each return by the kind.
use mathlib.Core.Path.{ap, ◌∙◌}
use Rattle.value.specs.declared.formats.Format.{Format}
use Rattle.value.specs.Format.{fits_format}
use Rattle.plain.specs.Plain.{decoded}
use Rattle.page.proofs.formed.Faults.{formed_up_to, formed_exactly}
use Rattle.page.proofs.formed.is_formed.Goals as goal

pub returns-then-kind-ge2 : goal.returns-then-kind-ge2
returns-then-kind-ge2 c =
    let a = c.args in
    c.fits.ensures ∙ ap (λ (f : Format). fits_format a.d.syntax f (decoded a.d.syntax a.a a.b a.d.bytes.now)) c.number_format.ensures

pub returns-then-kind-eq0 : goal.returns-then-kind-eq0
returns-then-kind-eq0 c = formed_up_to _ _ _ _ c.requires.0 c.requires.1 c.if-kind-eq0.true

pub returns : goal.returns
returns c = formed_exactly _ _ _ _ c.requires.0 c.if-kind-ge2.false c.if-kind-eq0.false
