-- Any two answers that meet an exported call's promise are equal, in every reading, and so are the rows that they leave.
use Prim.Native.Nat.{ℕ}
use mathlib.Core.Path.{◌≡◌, sym, ◌∙◌}
use mathlib.Core.List.{List}
use lib.IntN.{ℤ}
use Rattle.cut.specs.declared.service.Syntax.{Syntax}
use Rattle.messages.specs.Calls.{next_message}
use Rattle.held.specs.Reading.{next_from}
use Rattle.schaumtruhe.specs.Calls.{survey_of, verdict_at, priced_at, row_at, article_refusal, article_at}
use Rattle.schaumtruhe_c.specs.Answers.{totals_of, next_of, judged_of, prices_of, article_of, segment_of}
use Rattle.schaumtruhe_c.specs.declared.answers.Totals.{Totals}
use Rattle.schaumtruhe_c.specs.declared.answers.Next.{Next}
use Rattle.schaumtruhe_c.specs.declared.answers.Judged.{Judged}
use Rattle.schaumtruhe_c.specs.declared.answers.Prices.{Prices}
use Rattle.schaumtruhe_c.specs.declared.answers.Article.{Article}
use Rattle.schaumtruhe_c.specs.declared.answers.Segment.{Segment}

module _ (y : Syntax) (d : List ℕ) where
  pub one_totals : (r t : Totals) → r ≡ totals_of (survey_of y d) → t ≡ totals_of (survey_of y d) → r ≡ t
  one_totals r t h k = h ∙ sym k

  module _ (at : ℕ) where
    pub one-next : (r t : Next) → r ≡ next_of (next_message y d at) → t ≡ next_of (next_message y d at) → r ≡ t
    one-next r t h k = h ∙ sym k

    pub one-judged
        : (r t : Judged) → r ≡ judged_of (verdict_at y d at) → t ≡ judged_of (verdict_at y d at) → r ≡ t
    one-judged r t h k = h ∙ sym k

    pub one-segment : (r t : Segment) → r ≡ segment_of (next_from y d at) → t ≡ segment_of (next_from y d at) → r ≡ t
    one-segment r t h k = h ∙ sym k

    module _ (j : ℕ) where
      pub one-prices
          : (row : List ℤ) (r t : Prices) → r ≡ prices_of (priced_at y d at j row) → t ≡ prices_of (priced_at y d at j row) → r ≡ t
      one-prices row r t h k = h ∙ sym k

      pub one-row : (row r t : List ℤ) → r ≡ row_at y d at j row → t ≡ row_at y d at j row → r ≡ t
      one-row row r t h k = h ∙ sym k

      pub one-article
          : (r t : Article) → r ≡ article_of (article_refusal y d at j) (article_at y d at j)
          → t ≡ article_of (article_refusal y d at j) (article_at y d at j) → r ≡ t
      one-article r t h k = h ∙ sym k
