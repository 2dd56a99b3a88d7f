-- What a page that holds says of the components of its segment.
use Prim.Native.Nat.{ℕ, ◌≤◌}
use Prim.Native.String.{String}
use mathlib.Core.Bool.{Bool, true, false, true≢false}
use mathlib.Core.Path.{◌≡◌, refl, sym, ◌∙◌}
use mathlib.Core.List.{List, [], ◌∷◌, Memᴰ}
use native.Mathlib.Omega.{arith}
use Rattle.cut.specs.declared.service.Syntax.{Syntax}
use Rattle.value.specs.Format.{fits_format}
use Rattle.value.specs.declared.formats.Format.{Format}
use Rattle.value.specs.declared.formats.Format.TheVariants.{AnUpTo, NUpTo}
use Rattle.guide.specs.Page.{Status, must, Row, used, unused, Page, any, element_of, row_of}
use Rattle.guide.specs.Composites.{C212, C509}
use Rattle.guide.specs.PageMakers.{LIN, PRI}
use Rattle.guide.specs.Content.{text, Empty, Filled, by_status, Holds}
use Rattle.guide.specs.Nodes.{among}
use Rattle.guide.proofs.pages.Listing.{begun, among-member, member-among}

module _ (y : Syntax) (page : Page) (s : List ℕ) (h : Holds y page s) (e c : ℕ) (l : 1 ≤ e) where
  -- a component that is not used is empty
  pub holds-unused : row_of page e c ≡ unused → Empty y s e c
  unfolding Holds
  holds-unused r = go (text y s e c) refl
    where
      go : (t : List ℕ) → text y s e c ≡ t → Empty y s e c
      go [] p = p
      go (x ∷ xs) p = absurd ((h e c l).in_use record { row = r; filled = begun p })

  -- a must component of a required element stands
  pub holds-must : (f : Format) (cs : List (List ℕ)) → row_of page e c ≡ used must f cs → (element_of page e).required ≡ true → Filled y s e c
  unfolding Holds
  holds-must f cs r q z = (h e c l).present record { format = f; codes = cs; row = r; asked = by_status q; empty = z }

  module _ (k : Status) (f : Format) (cs : List (List ℕ)) (r : row_of page e c ≡ used k f cs) (w : Filled y s e c) where
    -- what stands is in its format
    pub holds-format : fits_format y f (text y s e c) ≡ true
    unfolding Holds
    holds-format = go (fits_format y f (text y s e c)) refl
      where
        go : (b : Bool) → fits_format y f (text y s e c) ≡ b → fits_format y f (text y s e c) ≡ true
        go true p = p
        go false p = absurd ((h e c l).formed record { status = k; format = f; codes = cs; row = r; filled = w; outside = p })

    -- and one of its codes, where there are any
    pub holds-code : (cs ≡ [] → ⊥) → Memᴰ (text y s e c) cs
    unfolding Holds
    holds-code q = go (among (text y s e c) cs) refl
      where
        go : (b : Bool) → among (text y s e c) cs ≡ b → Memᴰ (text y s e c) cs
        go true p = among-member cs (text y s e c) p
        go false p =
            absurd
            ((h e c l).listed
            record {
              status = k;
              format = f;
              codes = cs;
              row = r;
              filled = w;
              inside = holds-format;
              coded = q;
              other = λ m. true≢false (sym (member-among cs (text y s e c) m) ∙ p);
            })

-- the amount of a price, in either kind, is n..15
pub price-format : (y : Syntax) (rows : List Row) (s : List ℕ) → Holds y (PRI rows) s → fits_format y (NUpTo 15) (text y s 1 1) ≡ true
unfolding PRI C509 element_of row_of
price-format y rows s h =
    holds-format y (PRI rows) s h 1 1 (omega arith) must (NUpTo 15) any refl (holds-must y (PRI rows) s h 1 1 (omega arith) (NUpTo 15) any refl refl)

-- and an article always stands
pub article-stands : (y : Syntax) (kinds : List String) (s : List ℕ) → Holds y (LIN kinds) s → Filled y s 3 0
unfolding LIN C212 element_of row_of
article-stands y kinds s h = holds-must y (LIN kinds) s h 3 0 (omega arith) (AnUpTo 35) any refl refl
