-- Each LIN has a page of LIN and each PRI one of PRI, in every table with the pages of prices; both editions of PRICAT have them.
use Prim.Native.Nat.{ℕ, zero, suc, ◌<◌}
use Prim.Native.String.{String}
use mathlib.Core.Path.{◌≡◌, refl, ap, subst}
use mathlib.Core.Bool.{Bool, true, false}
use mathlib.Core.List.Memᴰ
use mathlib.Core.List.{List, [], ◌∷◌, ◌++◌, Memᴰ}
use mathlib.Core.Logic.{◌⊎◌, inl, inr, ⊎_elim}
use native.Mathlib.Omega.{arith}
use lib.ListN.{length}
use lib.Dec.{T, eqb}
use borrow.Author.Tests.{eqb-true, eqb-false}
use Rattle.plain.specs.Plain.{same}
use Rattle.guide.specs.Nodes.{Guide}
use Rattle.guide.specs.Pricat.{pricat20d, pricat20c}
use Rattle.guide.specs.Page.{Page, Row}
use Rattle.guide.specs.Composites.{basis}
use Rattle.guide.specs.PageMakers.{LIN, PRI}
use Rattle.guide.specs.Pages20d.{pages20d, page_of}
use Rattle.guide.specs.Pages20c.{pages20c, page_of20c}
use Rattle.guide.specs.Sheet.{only_if, is_tag}
use Rattle.guide.proofs.tables.Framing.{tag-inside}
use Rattle.price.specs.Table.{lin_node, pri_node}
use Rattle.price.specs.Pages.{pages_below, PricePages}

-- a node that the test holds of has its page among them
page-among
    : (pages : ℕ → Page) (test : ℕ → Bool) (k n : ℕ) → T (test n) → n < k → Memᴰ (pages n) (pages_below pages test k)
unfolding pages_below
page-among pages test zero n t l = absurd (omega arith)
page-among pages test (suc k) n t l = go (eqb n k) refl (test k) refl (page-among pages test k n t)
  where
    more : List Page
    more = pages_below pages test k

    go : (b : Bool) → eqb n k ≡ b → (c : Bool) → test k ≡ c → (n < k → Memᴰ (pages n) more) → Memᴰ (pages n) (only_if c (pages k) ++ more)
    go true e true f ih = Memᴰ.head (ap pages (eqb-true n k e))
    go true e false f ih = absurd (rw (eqb-true n k e, f) at t)
    go false e true f ih =
        let q = eqb-false n k e in
        Memᴰ.tail (ih (omega arith))
    go false e false f ih =
        let q = eqb-false n k e in
        ih (omega arith)

one_of_two : {A C : Type 0} {x a b : A} → Memᴰ x (a ∷ b ∷ []) → (x ≡ a → C) → (x ≡ b → C) → C
one_of_two m f k = ⊎_elim f (λ q. ⊎_elim k (λ z. absurd (Memᴰ.not-nil z)) (Memᴰ.cases_cons q)) (Memᴰ.cases_cons m)

module _ (g : Guide) (pages : ℕ → Page) (w : PricePages g pages) (n : ℕ) where
  pub lin-page : T (lin_node g n) → (kinds : List String) × (pages n ≡ LIN kinds)
  lin-page t =
      let m = page-among pages (lin_node g) (length g) n t (tag-inside g 76 (73 ∷ 78 ∷ []) n t) in
      one_of_two (subst (Memᴰ (pages n)) w.lins m) (λ e. ("Z09" ∷ [], e)) (λ e. ("Z01" ∷ "Z09" ∷ [], e))

  pub pri-page : T (pri_node g n) → (rows : List Row) × (pages n ≡ PRI rows) × ((rows ≡ basis) ⊎ (rows ≡ []))
  pri-page t =
      let m = page-among pages (pri_node g) (length g) n t (tag-inside g 80 (82 ∷ 73 ∷ []) n t) in
      one_of_two (subst (Memᴰ (pages n)) w.pris m) (λ e. ([], e, inr refl)) (λ e. (basis, e, inl refl))

pub pricat20d_pages : PricePages pricat20d page_of
unfolding pricat20d page_of pages20d pages_below is_tag same
pricat20d_pages = record { lins = refl; pris = refl }

pub pricat20c_pages : PricePages pricat20c page_of20c
unfolding pricat20c page_of20c pages20c pages_below is_tag same
pricat20c_pages = record { lins = refl; pris = refl }
