-- The prices of a proper message of any table with the pages of prices: no article is absent, each amount is exact, and the unit is the page's
-- or none stands.
use Prim.Native.Nat.{ℕ, ◌-◌, ◌≤◌, ◌<◌, min}
use mathlib.Core.Path.{◌≡◌, refl, sym, ap, subst, ◌∙◌}
use mathlib.Core.Bool.{true, false}
use mathlib.Core.List.Memᴰ
use mathlib.Core.List.{List, [], ◌∷◌, nil≢cons}
use mathlib.Core.Logic.{◌⊎◌, inl, inr, ⊎_elim}
use native.Mathlib.Decide.{dec_le}
use native.Mathlib.Omega.{arith}
use lib.ListN.{length}
use lib.IntN.{ℤ, pos}
use borrow.Author.Tests.{lt-ltb}
use Rattle.cut.specs.declared.service.Syntax.{Syntax}
use Rattle.bytewise.specs.Bytes.{bytes_of, part}
use Rattle.cut.specs.Segments as cut
use Rattle.cut.specs.Segments.{Segment, end_of}
use Rattle.messages.specs.Messages.{Message}
use Rattle.bytewise.proofs.Parts.{part_none}
use Rattle.element.specs.Elements.{component}
use Rattle.element.specs.Components.{component_at, span_in}
use Rattle.plain.specs.Plain.{plain, same}
use Rattle.element.specs.declared.components.Span.{Span}
use Rattle.value.specs.declared.formats.Format.TheVariants.{AnUpTo}
use Rattle.value.specs.Numeral.{minus, fraction, digits, is_number, decimal}
use Rattle.value.specs.Number.{signed}
use Rattle.element.proofs.ComponentFace.{component_bytes}
use Rattle.value.proofs.ValueFace.{n_up_to-fits, fits-amount}
use Rattle.guide.specs.Nodes.{Guide}
use Rattle.guide.specs.Page.{Page, Row, may, codes, element_of, row_of}
use Rattle.guide.specs.Composites.{C509, basis}
use Rattle.guide.specs.PageMakers.{PRI}
use Rattle.guide.specs.Content.{text, Filled, Holds}
use Rattle.guide.specs.Accepted.{Each, segments_of, Proper}
use Rattle.guide.proofs.Contents.{holds-unused, holds-code, price-format, article-stands}
use Rattle.price.specs.Numbers.{Listed, article_in, article_place, article_length, price_in, amount_of, decimals_of, unit_rank, numbers_of}
use Rattle.price.specs.Sheet.{prices_in_tree}
use Rattle.price.specs.Listing.{prices_of}
use Rattle.price.specs.Calls.{prices_in}
use Rattle.price.specs.Table.{Priced}
use Rattle.price.specs.Pages.{PricePages}
use Rattle.price.proofs.tree.Paged.{lin-page, pri-page}
use Rattle.price.proofs.tree.Tree.{prices-tree}
use Rattle.price.proofs.tree.Comes.{Comes, tree_come}
use Rattle.price.proofs.inside.Lies.{Lies, PriceLies, prices_in_lie}

-- the unit that a page lets stand
abbrev Unit_text : Syntax → List ℕ → Type 0
Unit_text y s = (text y s 1 5 ≡ []) ⊎ (text y s 1 5 ≡ bytes_of "ANN")

unit_known : (y : Syntax) (rows : List Row) (s : List ℕ) → (rows ≡ basis) ⊎ (rows ≡ []) → Holds y (PRI rows) s → Unit_text y s
unfolding PRI C509 basis codes element_of row_of
unit_known y rows s (inr e) h = inl (holds-unused y (PRI rows) s h 1 5 (omega arith) (rw e))
unit_known y rows s (inl e) h = go (text y s 1 5) refl
  where
    go : (t : List ℕ) → text y s 1 5 ≡ t → Unit_text y s
    go [] p = inl p
    go (x ∷ xs) p =
        let m =
        holds-code y (PRI rows) s h 1 5 (omega arith) may (AnUpTo 8) (bytes_of "ANN" ∷ []) (rw e) (λ z. nil≢cons (sym z ∙ p)) (λ z. nil≢cons (sym z)) in
        ⊎_elim (λ q. inr q) (λ q. absurd (Memᴰ.not-nil q)) (Memᴰ.cases_cons m)

-- its rank on the page, and 0 if there is none
pub data Rank (y : Syntax) (s : List ℕ) (z : ℤ) : Type 0 where
  no_unit : text y s 1 5 ≡ [] → z ≡ pos 0 → Rank y s z
  per_year : text y s 1 5 ≡ bytes_of "ANN" → z ≡ pos 1 → Rank y s z

unit_ranked : (y : Syntax) (s : List ℕ) → Unit_text y s → Rank y s (unit_rank y s)
unfolding unit_rank text same
unit_ranked y s (inl e) = no_unit e (rw e)
unit_ranked y s (inr e) = per_year e (rw e)

-- what the numbers of a price say in an accepted message
pub record Exact (y : Syntax) (base : ℕ) (q : Listed) : Type 0 where
  -- the article is not absent
  pub place : ℕ
  pub size : ℕ
  pub article : (numbers_of y base q).article ≡ pos place
  pub long : (numbers_of y base q).length ≡ pos size
  pub some : 0 < size
  -- what stands in 5118 is a number of at most fifteen digits, and the amount is the value of all its digits with its sign
  pub number : is_number y (text y q.price.pri.bytes 1 1) ≡ true
  pub short : length (digits (text y q.price.pri.bytes 1 1)) ≤ 15
  pub amount :
      (numbers_of y base q).amount ≡ signed (minus (text y q.price.pri.bytes 1 1)) (decimal (digits (text y q.price.pri.bytes 1 1)))
  pub decimals : (numbers_of y base q).decimals ≡ pos (length (fraction (text y q.price.pri.bytes 1 1)))
  -- the unit is the page's, or none stands
  pub unit : Rank y q.price.pri.bytes (numbers_of y base q).unit

-- an article that stands has a place
article-some
    : (y : Syntax) (d : List ℕ) (a z : ℕ) (lin : Segment) → Lies d a z lin → Filled y lin.bytes 3 0
    → (article_in y lin.start lin.bytes).start < (article_in y lin.start lin.bytes).end
unfolding article_in component_at span_in text plain
article-some y d a z lin l f = go (dec_le s.end s.start)
  where
    s : Span
    s = article_in y lin.start lin.bytes

    bytes : part s.start s.end d ≡ component y lin.bytes 3 0
    bytes = rw l.bytes (component_bytes y d lin.start (end_of lin) 3 0)

    go : Dec (s.end ≤ s.start) → s.start < s.end
    go (yes h) = absurd (f (ap (plain y false) (sym bytes ∙ part_none d s.start s.end h)))
    go (no h) = omega arith

module _ (y : Syntax) (g : Guide) (pages : ℕ → Page) (t : Priced g) (w : PricePages g pages) where
  -- its node's page holds of a segment
  abbrev Page-holds : ℕ → Segment → Type 0
  Page-holds n s = Holds y (pages n) s.bytes

  exact : (d : List ℕ) (base z : ℕ) (q : Listed) → PriceLies d base z q → Comes g Page-holds q → Exact y base q
  unfolding numbers_of article_place article_length price_in text
  exact d base z q l c =
      let lin = lin-page g pages w c.lin.node c.lin.tagged in
      let pri = pri-page g pages w c.pri.node c.pri.tagged in
      let h = subst (λ (p : Page). Holds y p q.lin.bytes) lin.1 c.lin.holds in
      let k = subst (λ (p : Page). Holds y p q.price.pri.bytes) pri.1 c.pri.holds in
      let a = article-some y d base z q.lin l.lin (article-stands y lin.0 q.lin.bytes h) in
      let f = price-format y pri.0 q.price.pri.bytes k in
      let n = fits-amount y 15 (text y q.price.pri.bytes 1 1) f (omega arith) in
      let m = n_up_to-fits y 15 (text y q.price.pri.bytes 1 1) f in
      record {
        place = (article_in y q.lin.start q.lin.bytes).start - base;
        size = (article_in y q.lin.start q.lin.bytes).end - (article_in y q.lin.start q.lin.bytes).start;
        article = rw (lt-ltb _ _ a);
        long = refl;
        some = omega arith;
        number = m.0;
        short = m.1;
        amount = ap amount_of n;
        decimals = ap decimals_of n;
        unit = unit_ranked y q.price.pri.bytes (unit_known y pri.0 q.price.pri.bytes pri.2 k);
      }

  each_exact
      : (d : List ℕ) (base z : ℕ) (qs : List Listed) → Each (PriceLies d base z) qs → Each (Comes g Page-holds) qs → Each (Exact y base) qs
  unfolding Each
  each_exact d base z [] l c = tt
  each_exact d base z (q ∷ qs) l c = (exact d base z q l.0 c.0, each_exact d base z qs l.1 c.1)

  -- every price of a proper message
  pub prices_exact
      : (d : List ℕ) (start end : ℕ) (m : Message) → cut.segments_of y start (part start end d) ≡ segments_of m → Proper y g pages m
      → Each (Exact y start) (prices_in y d start end)
  unfolding prices_in
  prices_exact d start end m e p =
      let q : prices_of start (cut.segments_of y start (part start end d)) ≡ prices_in_tree g p.sheet.tree =
      ap (prices_of start) e ∙ prices-tree y g t start (segments_of m) p.sheet in
      each_exact d start (min end (length d)) (prices_in y d start end) (prices_in_lie y d start end)
      (subst (Each (Comes g Page-holds)) (sym q) (tree_come g Page-holds p.sheet.tree p.holds))
