-- A refusal is unique: document 01's rows and their order give one number for each call, one segment, place and node, and none where the call is
-- answered. For the whole delivery: `one-refusal` and `none-admitted` (proofs/places/Asked).
use Prim.Native.Nat.{ℕ, ◌≤◌, ◌<◌}
use mathlib.Core.Path.{◌≡◌, sym, ◌∙◌, ap}
use mathlib.Core.List.{List}
use native.Mathlib.Omega.{arith}
use lib.ListN.{length}
use Rattle.cut.specs.declared.service.Syntax.{Syntax}
use Rattle.messages.specs.Messages.{Message}
use Rattle.guide.specs.Answers.{refuses}
use Rattle.guide.proofs.judging.Verdicts.{accepts_refuses}
use Rattle.price.specs.Sheet.{prices_in_tree}
use Rattle.verdict.specs.Named.{guide_named}
use Rattle.schaumtruhe.specs.Calls.{stands, missing, listed}
use Rattle.schaumtruhe.specs.Demands.{VerdictRefused, Stands, VerdictAccepted, PricesRefused, ArticleRefused, no_prices, no_price}
use Rattle.schaumtruhe.proofs.Demand1.{judge_refuses, judge_accepts, sheet-missing, sheet-stands, tree-prices, article-number}

module _ (y : Syntax) (d : List ℕ) (at : ℕ) where
  -- judge_at
  pub one-verdict_refused
      : (k i a n k' i' a' n' : ℕ) → VerdictRefused y d at k i a n → VerdictRefused y d at k' i' a' n' → (k ≡ k') × (i ≡ i') × (a ≡ a') × (n ≡ n')
  one-verdict_refused k i a n k' i' a' n' r t =
      let e : refuses k i a n ≡ refuses k' i' a' n' = sym ((judge_refuses y d at k i a n).1 r) ∙ (judge_refuses y d at k' i' a' n').1 t in
      let q : k ≡ k' = cc in
      let u : i ≡ i' = cc in
      let v : a ≡ a' = cc in
      let w : n ≡ n' = cc in
      (q, u, v, w)

  pub accepted-or_refused : (s e k i a n : ℕ) → VerdictAccepted y d at s e → VerdictRefused y d at k i a n → ⊥
  accepted-or_refused s e k i a n v r = accepts_refuses (sym ((judge_accepts y d at s e).1 v) ∙ (judge_refuses y d at k i a n).1 r)

  -- prices
  pub one-prices_refused : (k n : ℕ) → PricesRefused y d at k → PricesRefused y d at n → k ≡ n
  one-prices_refused k n r t =
      let e : missing k ≡ missing n = sym ((sheet-missing y d at k).1 r) ∙ (sheet-missing y d at n).1 t in
      cc

  pub prices-or_refused : (m : Message) (n : ℕ) → Stands y d at m → PricesRefused y d at n → ⊥
  prices-or_refused m n s r =
      let e : stands m ≡ missing n = sym ((sheet-stands y d at m).1 s) ∙ (sheet-missing y d at n).1 r in
      let z : ◌≡◌ {A = ℕ} 0 1 = cc in
      omega arith

  -- article
  pub one-article_refused : (j k n : ℕ) → ArticleRefused y d at j k → ArticleRefused y d at j n → k ≡ n
  one-article_refused j k n r t = sym (article-number y d at j k r) ∙ article-number y d at j n t

  -- the price j is there, as the tree has it
  abbrev Has : ℕ → (m : Message) → Stands y d at m → Type 0
  Has j m s = j < length (prices_in_tree (guide_named y m) s.accepted.proper.sheet.tree)

  same_count : (m o : Message) (s : Stands y d at m) (t : Stands y d at o) → length (listed y m) ≡ length (listed y o)
  same_count m o s t =
      let e : stands m ≡ stands o = sym ((sheet-stands y d at m).1 s) ∙ (sheet-stands y d at o).1 t in
      let q : m ≡ o = cc in
      ap (λ (x : Message). length (listed y x)) q

  pub article-or_refused : (j n : ℕ) (m : Message) (s : Stands y d at m) → Has j m s → ArticleRefused y d at j n → ⊥
  article-or_refused j n m s h (no_prices r) = prices-or_refused m n s r
  article-or_refused j n m s h (no_price o t l) =
      let a : j < length (listed y m) = rw (tree-prices y d at m s) h in
      let b : length (listed y o) ≤ j = rw (tree-prices y d at o t) l in
      omega (arith, same_count m o s t)
