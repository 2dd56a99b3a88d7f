-- The article of a price of the accepted message at a place: one law for each answer of the workers, and that it lies within the delivery.
use Prim.Native.Nat.{ℕ, zero, suc, ◌≤◌, min, ◌<◌}
use mathlib.Core.Path.{◌≡◌, refl, sym, ◌∙◌, ap, ap₂}
use mathlib.Core.List.{List}
use native.Mathlib.Omega.{arith}
use lib.Dec.{ltb}
use lib.ListN.{length, drop}
use borrow.Author.Tests.{lt-ltb, le-ltb}
use Rattle.cut.specs.declared.service.Syntax.{Syntax}
use Rattle.messages.specs.Messages.{Message, start_of, close_of}
use Rattle.element.specs.declared.components.Span.{Span}
use Rattle.guide.specs.Choices.{pickℕ}
use Rattle.price.specs.Calls.{prices_in, first_article, article_at as article_in}
use Rattle.price.specs.Numbers.{Listed}
use Rattle.price.proofs.inside.Parted.{article-in}
use Rattle.schaumtruhe.specs.Calls.{Sheet, stands, missing, sheet_at, article_refusal, at_start, article_unless, article_by, article_at}
use Rattle.schaumtruhe.specs.workers.Answers.{standing_of}
use Rattle.std.specs.Prelude.{Ok, Err}
use Rattle.schaumtruhe.specs.declared.sheets.Sheet.{Sheet as Standing}
use Rattle.schaumtruhe.proofs.judging.Verdicts.{Stands, stands_alone}
use Rattle.schaumtruhe.proofs.pricing.Filling.{listed-in, found, alone, m, same-prices, lost}

-- the article of a message's price as its bytes show it
article-here : (y : Syntax) (d : List ℕ) (k : ℕ) (m : Message) → Stands y d m → article_in y d (start_of m) (close_of m) k ≡ article_by y (stands m) k
unfolding article_in
article-here y d k m h =
    let z : min (start_of m) (length d) ≡ start_of m = omega (arith, h.some, h.fits) in
    ap₂ (λ (a : ℕ) (qs : List Listed). first_article y a (drop k qs)) z (listed-in y d m h)

module _ (y : Syntax) (d : List ℕ) (at k : ℕ) where
  unless-refused : (n : ℕ) (s : Span) → (n ≡ 0 → ⊥) → at_start ≡ article_unless n s
  unless-refused zero s h = absurd (h refl)
  unless-refused (suc n) s h = refl

  -- no accepted message stands there
  pub sheet-refused : (n : ℕ) → Err n ≡ standing_of (sheet_at y d at) → n ≡ article_refusal y d at k
  unfolding article_refusal
  sheet-refused n is = rw (lost y d at n is)

  pub article-refused : (n : ℕ) → n ≡ article_refusal y d at k → (n ≡ 0 → ⊥) → at_start ≡ article_at y d at k
  unfolding article_at
  article-refused n r h = unless-refused (article_refusal y d at k) _ (λ z. h (r ∙ z))

  -- one does
  module _ (s : Standing) (is : Ok s ≡ standing_of (sheet_at y d at)) where
    by-count : article_refusal y d at k ≡ pickℕ (ltb k (length (prices_in y d s.start s.end))) 0 32
    unfolding article_refusal
    by-count =
        rw (found y d at s is).is (ap (λ (qs : List Listed). pickℕ (ltb k (length qs)) 0 32) (sym (same-prices y d at s is)))

    module _ (t : ℕ) (counts : t ≡ length (prices_in y d s.start s.end)) where
      pub no_price : t ≤ k → 32 ≡ article_refusal y d at k
      no_price h =
          let l : length (prices_in y d s.start s.end) ≤ k = omega arith in
          rw (by-count, le-ltb k (length (prices_in y d s.start s.end)) l)

      pub has-price : k < t → 0 ≡ article_refusal y d at k
      has-price h =
          let l : k < length (prices_in y d s.start s.end) = omega arith in
          rw (by-count, lt-ltb k (length (prices_in y d s.start s.end)) l)

    pub article-found : 0 ≡ article_refusal y d at k → (a : Span) → a ≡ article_in y d s.start s.end k → a ≡ article_at y d at k
    unfolding article_at
    article-found h a q =
        let f = found y d at s is in
        let z : article_refusal y d at k ≡ 0 = sym h in
        let w = ap₂ (λ (i j : ℕ). article_in y d i j k) (sym f.starts) (sym f.closes) in
        rw (z, f.is) (q ∙ w ∙ article-here y d k f.message (alone y d at s is))

  -- the article lies within the delivery
  abbrev Within : Span → Type 0
  Within s = (s.start ≤ s.end) × (s.end ≤ length d)

  within-unless : (n : ℕ) (s : Span) → Within s → Within (article_unless n s)
  within-unless zero s h = h
  within-unless (suc n) s h = (omega arith, omega arith)

  within_by : (sheet : Sheet) → sheet_at y d at ≡ sheet → Within (article_by y sheet k)
  within_by (stands n) e = rw (sym (article-here y d k n (stands_alone y d at n e))) (article-in y d (start_of n) (close_of n) k)
  within_by (missing n) e = (omega arith, omega arith)

  pub article-within : ((article_at y d at k).start ≤ (article_at y d at k).end) × ((article_at y d at k).end ≤ length d)
  unfolding article_at
  article-within = within-unless (article_refusal y d at k) (article_by y (sheet_at y d at) k) (within_by (sheet_at y d at) refl)
