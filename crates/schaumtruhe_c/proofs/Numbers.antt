-- The fields of each answer are document 01's numbers, in its order; an article asked in vain has two zeros, and any other lies in the delivery, as
-- a segment does.
use Prim.Native.Nat.{ℕ, suc, ◌+◌, ◌≤◌, ◌<◌}
use mathlib.Core.Path.{◌≡◌, refl, ap}
use mathlib.Core.List.{List, [], ◌∷◌}
use native.Mathlib.Omega.{arith}
use lib.ListN.{length}
use Rattle.cut.specs.declared.service.Syntax.{Syntax}
use Rattle.cut.specs.declared.scan.Cut.{Cut}
use Rattle.envelope.specs.Envelope.{Enveloped, Complete, Refused as Incomplete, envelope_numbers}
use Rattle.held.specs.Reading.{next_from}
use Rattle.held.proofs.Walking.{next_in_delivery}
use Rattle.guide.specs.Answers.{Verdict, accepts, refuses}
use Rattle.verdict.specs.Answers.{numbers_of}
use Rattle.schaumtruhe.specs.Calls.{survey_numbers, priced_numbers, article_refusal, article_at, article_unless, article_by, sheet_at}
use Rattle.std.specs.Prelude.{Option, Some, None, Result, Ok, Err}
use Rattle.price.specs.declared.filling.Filled.{Filled}
use Rattle.schaumtruhe.specs.declared.surveys.Survey.{Survey}
use Rattle.schaumtruhe.proofs.ArticlePlaces.{article-within}
use Rattle.schaumtruhe_c.specs.declared.answers.Segment.{Segment}
use Rattle.schaumtruhe_c.specs.Answers.{
  totals_of,
  totals_numbers,
  enveloped,
  enveloped_numbers,
  judged_of,
  judged_numbers,
  prices_of,
  prices_numbers,
  article_of,
  article_numbers,
  segment_of,
}

pub totals-numbers : (s : Result Survey ℕ) → totals_numbers (totals_of s) ≡ survey_numbers s
unfolding totals_numbers survey_numbers
totals-numbers (Ok s) = refl
totals-numbers (Err n) = refl

pub envelope-numbers : (e : Enveloped) → enveloped_numbers (enveloped e) ≡ envelope_numbers e
unfolding enveloped_numbers envelope_numbers
envelope-numbers Complete = refl
envelope-numbers (Incomplete n p) = refl

pub judged-numbers : (v : Verdict) → judged_numbers (judged_of v) ≡ numbers_of v
unfolding judged_numbers numbers_of
judged-numbers (accepts n e) = refl
judged-numbers (refuses k i p n) = refl

pub prices-numbers : (p : Result Filled ℕ) → prices_numbers (prices_of p) ≡ priced_numbers p
unfolding prices_numbers priced_numbers
prices-numbers (Ok f) = refl
prices-numbers (Err n) = refl

-- what `schaumtruhe_segment_at` answers
abbrev pub segment_from : Syntax → List ℕ → ℕ → Segment
segment_from y d at = segment_of (next_from y d at)

-- a segment that was found is not empty, and lies in the delivery, at the place asked or later
pub segment_in_delivery
    : (y : Syntax) (d : List ℕ) (at : ℕ) → (segment_from y d at).found ≡ 1
    → (at ≤ (segment_from y d at).start) × (((segment_from y d at).start < (segment_from y d at).end) × ((segment_from y d at).end ≤ length d))
segment_in_delivery y d at = go (next_from y d at) refl
  where
    go
        : (c : Option Cut) → next_from y d at ≡ c → (segment_of c).found ≡ 1
        → (at ≤ (segment_of c).start) × (((segment_of c).start < (segment_of c).end) × ((segment_of c).end ≤ length d))
    go (Some k) h f = next_in_delivery y d at k.start k.end k.piece h
    go None h f = absurd (omega (arith, f))

module _ (y : Syntax) (d : List ℕ) (at k : ℕ) where
  -- a refused article: its number and two zeros
  pub article-refused
      : (n : ℕ) → article_refusal y d at k ≡ suc n
      → article_numbers (article_of (article_refusal y d at k) (article_at y d at k)) ≡ suc n ∷ 0 ∷ 0 ∷ []
  unfolding article_at article_numbers
  article-refused n h =
      ap (λ (m : ℕ). article_numbers (article_of m (article_unless m (article_by y (sheet_at y d at) k)))) h

  -- what makes a slice of the delivery from place and length safe
  pub article_in_delivery
      : (article_of (article_refusal y d at k) (article_at y d at k)).place
      + (article_of (article_refusal y d at k) (article_at y d at k)).length
      ≤ length d
  article_in_delivery = omega (arith, (article-within y d at k).0, (article-within y d at k).1)
