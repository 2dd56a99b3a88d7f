-- `page::quick::is_begun` meets its contract: each return by its tests.
use mathlib.Core.Path.{sym, ◌∙◌}
use mathlib.Core.Bool.{false≢true}
use native.Mathlib.Omega.{arith}
use borrow.Author.Tests.{eqb-true}
use Rattle.page.proofs.quick.Tags.{begun-word}
use Rattle.page.proofs.quick.is_begun.Goals as goal

pub returns-then-not-has_usual_services : goal.returns-then-not-has_usual_services
returns-then-not-has_usual_services c = λ h. absurd (false≢true h)

pub returns-then-d-lt8 : goal.returns-then-d-lt8
returns-then-d-lt8 c = λ h. absurd (false≢true h)

pub returns-then-d-start : goal.returns-then-d-start
returns-then-d-start c = λ h. absurd (false≢true h)

pub returns : goal.returns
returns c = λ h.
    begun-word _ _ _ (omega arith) (λ k. omega (arith, c.shared_slice_known-1.given k)) _ c.eight_at.ensures (eqb-true _ _ h) _
    (sym c.has_usual_services.ensures ∙ c.if-not-has_usual_services.false) c.requires
