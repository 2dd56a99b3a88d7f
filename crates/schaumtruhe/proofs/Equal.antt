-- Any two answers that meet a public call's promise are equal, in every reading. A returned part is equal in bytes and pointer; its ghost name
-- is no part of the promise.
use Prim.Native.Nat.{ℕ}
use mathlib.Core.Path.{◌≡◌, sym, ◌∙◌}
use mathlib.Core.List.{List}
use lib.IntN.{ℤ}
use denote.Ref.{Bor}
use Rattle.cut.specs.declared.service.Syntax.{Syntax}
use Rattle.messages.specs.Calls.{next_message}
use Rattle.messages.specs.declared.found.Message.{Message as Found}
use Rattle.element.specs.declared.components.Span.{Span}
use Rattle.price.specs.Calls.{IsPart}
use Rattle.price.proofs.Face.{one-part}
use Rattle.verdict.specs.declared.answers.Accepted.{Accepted}
use Rattle.schaumtruhe.specs.declared.unaccepted.Unaccepted.{Unaccepted}
use Rattle.cut.specs.declared.admit.Inadmissible.{Inadmissible}
use Rattle.cut.specs.Admission.{number_of as inadmissible_number}
use Rattle.schaumtruhe.specs.declared.refusal.Refusal.{Refusal}
use Rattle.schaumtruhe.specs.Refusals.{number_of, numbered, refusal_number, told}
use Rattle.schaumtruhe.proofs.Told.{one_told, one_surveyed, one_refused, one_asked}
use Rattle.schaumtruhe.specs.Calls.{survey_of, verdict_at, priced_at, row_at, article_refusal, article_at}
use Rattle.std.specs.Prelude.{Option, Result, ⊤}
use Rattle.price.specs.declared.filling.Filled.{Filled}
use Rattle.schaumtruhe.specs.declared.surveys.Survey.{Survey}

module _ (y : Syntax) (d : List ℕ) where
  pub one_survey
      : (r t : Result Survey Inadmissible) → numbered inadmissible_number r ≡ survey_of y d → numbered inadmissible_number t ≡ survey_of y d → r ≡ t
  one_survey r t h k = one_surveyed r t (h ∙ sym k)

  module _ (at : ℕ) where
    pub one-next : (r t : Option Found) → r ≡ next_message y d at → t ≡ next_message y d at → r ≡ t
    one-next r t h k = h ∙ sym k

    pub one-verdict : (r t : Result Accepted Unaccepted) → told r ≡ verdict_at y d at → told t ≡ verdict_at y d at → r ≡ t
    one-verdict r t h k = one_told r t (h ∙ sym k)

    module _ (j : ℕ) where
      pub one-priced
          : (row : List ℤ) (r t : Result Filled Refusal) → numbered number_of r ≡ priced_at y d at j row
          → numbered number_of t ≡ priced_at y d at j row → r ≡ t
      one-priced row r t h k = one_refused r t (h ∙ sym k)

      pub one-row : (row r t : List ℤ) → r ≡ row_at y d at j row → t ≡ row_at y d at j row → r ≡ t
      one-row row r t h k = h ∙ sym k

      pub one-article-refusal
          : (r t : Result ⊤ Refusal) → refusal_number r ≡ article_refusal y d at j → refusal_number t ≡ article_refusal y d at j → r ≡ t
      one-article-refusal r t h k = one_asked r t (h ∙ sym k)

      pub one-article-place : (r t : Span) → r ≡ article_at y d at j → t ≡ article_at y d at j → r ≡ t
      one-article-place r t h k = h ∙ sym k

-- article
pub one-article
    : (y : Syntax) (d r t : Bor (List ℕ)) (at j : ℕ) → IsPart d r (article_at y d.now at j).start (article_at y d.now at j).end
    → IsPart d t (article_at y d.now at j).start (article_at y d.now at j).end
    → (r.now ≡ t.now) × (r.ref_ptr.0 ≡ t.ref_ptr.0) × (r.ref_ptr.1 ≡ t.ref_ptr.1)
one-article y d r t at j p q = one-part d r t _ _ p q
