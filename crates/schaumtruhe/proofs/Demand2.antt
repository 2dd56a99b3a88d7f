-- Demand 2 over a delivery and a place: `judge-accepts` and `judge-refuses` (proofs/Demand1) say when a message is accepted and what a refusal
-- gives; here "Prices of an accepted message are exact, complete and in message order".
use Prim.Native.Nat.{ℕ, ◌-◌, ◌/◌, ◌<◌, min}
use mathlib.Core.Path.{◌≡◌, ◌∙◌, ap, subst}
use mathlib.Core.List.{List, ◌∷◌}
use native.Mathlib.Omega.{arith}
use lib.IntN.{ℤ}
use lib.ListN.{length, drop, length-drop}
use borrow.Author.Tests.{lt-ltb}
use Rattle.cut.specs.declared.service.Syntax.{Syntax}
use Rattle.bytewise.specs.Bytes.{bytes_of}
use Rattle.messages.specs.Messages.{Message, start_of, close_of}
use Rattle.guide.specs.Accepted.{Each, segments_of}
use Rattle.guide.specs.Sheet.{with_tag}
use Rattle.guide.specs.Tree.{assigned}
use Rattle.price.specs.Calls.{filled_of, row_after, first_article}
use Rattle.price.specs.Numbers.{Listed, numbers_of}
use Rattle.price.specs.Sheet.{prices_in_tree}
use Rattle.price.proofs.Face.{
  prices-tree,
  prices-counted,
  Exact,
  prices_exact,
  Placed,
  proper_placed,
  InMessage,
  prices_in_message,
  ArticleOf,
  handed_article,
  written_count,
}
use Rattle.verdict.specs.Named.{edition_of, guide_named, pages_named}
use Rattle.schaumtruhe.specs.Calls.{listed, priced_at, row_at, article_refusal, article_at}
use Rattle.schaumtruhe.specs.Demands.{Stands}
use Rattle.std.specs.Prelude.{Ok}
use Rattle.price.specs.declared.filling.Filled.{Filled}
use Rattle.schaumtruhe.proofs.judging.Verdicts.{stands_alone, Stands as InDelivery}
use Rattle.schaumtruhe.proofs.pricing.Filling.{listed-in}
use Rattle.schaumtruhe.proofs.Demand1.{sheet-stands}
use Rattle.schaumtruhe.proofs.pricing.Named.{named-priced, named_pages}

-- so many are written of so many
abbrev pub filled : ℕ → ℕ → Filled
filled w t = record { written = w; total = t }

module _ (y : Syntax) (d : List ℕ) (at : ℕ) (m : Message) (s : Stands y d at m) where
  -- the prices of the message, and what the call gives of them
  pub record Priced : Type 0 where
    -- in message order: they are those that the tree has, position by position
    pub ordered : listed y m ≡ prices_in_tree (guide_named y m) s.accepted.proper.sheet.tree
    -- complete: as many as there are PRI segments placed
    pub complete : length (listed y m) ≡ length (with_tag (guide_named y m) (bytes_of "PRI") (assigned s.accepted.proper.sheet.tree))
    -- exact: article, amount, decimals and unit are what stands in the segments
    pub exact : Each (Exact y (start_of m)) (listed y m)
    -- the position is the number that the LIN itself gives
    pub numbered : Each (Placed y) (listed y m)
    -- places and lengths lie within the message
    pub inside : Each (λ q. InMessage (close_of m - start_of m) (numbers_of y (start_of m) q)) (listed y m)
    -- the article of each price is component 0 of element 3 of the LIN of its position, and stands where the row says
    pub articles : (k : ℕ) (q : Listed) (qs : List Listed) → drop k (listed y m) ≡ q ∷ qs → ArticleOf y d (start_of m) q (article_at y d at k)
    -- how many are written and how many there are, and the whole row afterwards
    pub answered :
        (k : ℕ) (row : List ℤ) → priced_at y d at k row ≡ Ok (filled (min (length row / 8) (length (listed y m) - k)) (length (listed y m)))
    pub filled : (k : ℕ) (row : List ℤ) → row_at y d at k row ≡ row_after y (start_of m) k (listed y m) row

  alone : InDelivery y d m
  alone = stands_alone y d at m ((sheet-stands y d at m).1 s)

  total : (k : ℕ) (row : List ℤ) → priced_at y d at k row ≡ Ok (filled (min (length row / 8) (length (listed y m) - k)) (length (listed y m)))
  unfolding priced_at filled_of
  total k row =
      rw ((sheet-stands y d at m).1 s) (ap (λ (w : ℕ). Ok (filled w (length (listed y m)))) (written_count y (start_of m) k row (listed y m)))

  row-filled : (k : ℕ) (row : List ℤ) → row_at y d at k row ≡ row_after y (start_of m) k (listed y m) row
  unfolding row_at
  row-filled k row = rw ((sheet-stands y d at m).1 s)

  -- the article of a price that is there
  article-first : (k : ℕ) → k < length (listed y m) → article_at y d at k ≡ first_article y (start_of m) (drop k (listed y m))
  unfolding article_at article_refusal
  article-first k h = rw ((sheet-stands y d at m).1 s, lt-ltb k (length (listed y m)) h)

  article_handed : (k : ℕ) (q : Listed) (qs : List Listed) → drop k (listed y m) ≡ q ∷ qs → ArticleOf y d (start_of m) q (article_at y d at k)
  article_handed k q qs h =
      let same = listed-in y d m alone in
      let l : k < length (listed y m) = omega (arith, length-drop k (listed y m), ap length h) in
      let a = handed_article y d (start_of m) (close_of m) k q qs (ap (drop k) same ∙ h) in
      rw (article-first k l) (subst (λ (ps : List Listed). ArticleOf y d (start_of m) q (first_article y (start_of m) (drop k ps))) same a)

  -- Prices of an accepted message are exact, complete and in message order.
  pub prices-right : Priced
  prices-right =
      let w = s.accepted.proper.sheet in
      let same = listed-in y d m alone in
      let priced = named-priced (edition_of y (segments_of m)) in
      let z : min (close_of m) (length d) - start_of m ≡ close_of m - start_of m = omega (arith, alone.fits) in
      record {
        ordered = prices-tree y (guide_named y m) priced (start_of m) (segments_of m) w;
        complete = prices-counted y (guide_named y m) (start_of m) (segments_of m) w;
        exact =
            subst (Each (Exact y (start_of m))) same
            (prices_exact y (guide_named y m) (pages_named y m) priced (named_pages (edition_of y (segments_of m))) d (start_of m) (close_of m) m alone.alone
            s.accepted.proper);
        numbered = proper_placed y (guide_named y m) (pages_named y m) priced (start_of m) m s.accepted.proper;
        inside =
            subst (λ (b : ℕ). Each (λ q. InMessage b (numbers_of y (start_of m) q)) (listed y m)) z
            (subst (Each (λ q. InMessage (min (close_of m) (length d) - start_of m) (numbers_of y (start_of m) q))) same
            (prices_in_message y d (start_of m) (close_of m)));
        articles = article_handed;
        answered = total;
        filled = row-filled;
      }
