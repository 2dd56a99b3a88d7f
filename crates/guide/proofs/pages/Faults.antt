-- The computed fault of a component is the fault that the page's words give it.
use Prim.Native.Nat.{ℕ, zero, suc}
use mathlib.Core.Bool.{Bool, true, false, not, ◌||◌}
use mathlib.Core.Path.{◌≡◌, refl, sym, ◌∙◌}
use mathlib.Core.List.{List, [], ◌∷◌}
use mathlib.Core.Logic.{◌⊎◌, inl, inr}
use native.Mathlib.Omega.{arith}
use lib.ListN.{get_or}
use Rattle.cut.specs.declared.service.Syntax.{Syntax}
use Rattle.element.specs.Elements.{elements, component}
use Rattle.value.specs.Numeral.{some, none}
use Rattle.value.specs.Format.{fits_format}
use Rattle.value.specs.declared.formats.Format.{Format}
use Rattle.guide.specs.Page.{Status, must, may, Row, used, unused, Page, element_of, row_of}
use Rattle.guide.specs.Content.{text, Asked, by_status, by_content, Sound}
use Rattle.guide.specs.FirstFault.{Fault, not-used, missing, wrong-format, wrong-code}
use Rattle.guide.specs.Nodes.{chosen}
use Rattle.guide.specs.workers.PageFault.{not_used, missing as is_missing, wrong_format, wrong_code, text_fault, any_filled}
use Rattle.guide.specs.Choices.{pickℕ}
use Rattle.guide.proofs.pages.Listing.{begun, or_cases, or_right, off_coded, off_other, off_list, filled-found, found-filled}

-- the fault of a text on a row that is not used
pub unused-filled : (y : Syntax) (asked : Bool) (t : List ℕ) → (t ≡ [] → ⊥) → text_fault y asked unused t ≡ 18
unfolding text_fault not_used some
unused-filled y asked [] h = absurd (h refl)
unused-filled y asked (x ∷ xs) h = refl

-- of none on one that asks for it
must-empty : (y : Syntax) (f : Format) (cs : List (List ℕ)) → text_fault y true (used must f cs) [] ≡ 17
unfolding text_fault not_used is_missing none
must-empty y f cs = refl

-- and of a text on a row in use: that of its format, or that of its code, or none
pub used-filled
    : (y : Syntax) (asked : Bool) (k : Status) (f : Format) (cs : List (List ℕ)) (t : List ℕ) → (t ≡ [] → ⊥)
    → text_fault y asked (used k f cs) t ≡ pickℕ (not (fits_format y f t)) 19 (pickℕ (not (chosen cs t)) 20 0)
unfolding text_fault not_used is_missing wrong_format wrong_code some none
used-filled y asked k f cs [] h = absurd (h refl)
used-filled y asked must f cs (x ∷ xs) h = refl
used-filled y asked may f cs (x ∷ xs) h = refl

module _ (y : Syntax) (page : Page) (s : List ℕ) (e : ℕ) where
  -- whether element e asks for its must components
  abbrev pub asks : Bool
  asks = (element_of page e).required || any_filled y (get_or (elements y s) e [])

  pub asked_asks : Asked y page s e → asks ≡ true
  unfolding text component
  asked_asks (by_status h) = rw h
  asked_asks (by_content c h) = or_right (element_of page e).required _ (found-filled y (get_or (elements y s) e []) c h)

  pub asks_asked : asks ≡ true → Asked y page s e
  unfolding text component
  asks_asked h = go (or_cases (element_of page e).required (any_filled y (get_or (elements y s) e [])) h)
    where
      go : ((element_of page e).required ≡ true) ⊎ (any_filled y (get_or (elements y s) e []) ≡ true) → Asked y page s e
      go (inl q) = by_status q
      go (inr q) =
          let m = filled-found y (get_or (elements y s) e []) q in
          by_content m.0 m.1

  module _ (c : ℕ) where
    abbrev pub found : ℕ
    found = text_fault y asks (row_of page e c) (text y s e c)

    -- a fault that is found is one
    pub found-fault : (n : ℕ) → found ≡ suc n → Fault y page s (suc n) e c
    unfolding text_fault not_used is_missing wrong_format wrong_code some none
    found-fault n = go (row_of page e c) refl (text y s e c) refl asks refl
      where
        inside
            : (k : Status) (f : Format) (cs : List (List ℕ)) → row_of page e c ≡ used k f cs → (x : ℕ) (xs : List ℕ) → text y s e c ≡ x ∷ xs
            → (a b : Bool) → fits_format y f (x ∷ xs) ≡ a → chosen cs (x ∷ xs) ≡ b → pickℕ (not a) 19 (pickℕ (not b) 20 0) ≡ suc n
            → Fault y page s (suc n) e c
        inside k f cs q x xs p false b i j h =
            wrong-format (sym h) record { status = k; format = f; codes = cs; row = q; filled = begun p; outside = rw p i }
        inside k f cs q x xs p true false i j h =
            wrong-code (sym h)
            record {
              status = k;
              format = f;
              codes = cs;
              row = q;
              filled = begun p;
              inside = rw p i;
              coded = off_coded cs (x ∷ xs) j;
              other = rw p (off_other cs (x ∷ xs) j);
            }
        inside k f cs q x xs p true true i j h = absurd (omega arith)

        go
            : (r : Row) → row_of page e c ≡ r → (t : List ℕ) → text y s e c ≡ t → (a : Bool) → asks ≡ a → text_fault y a r t ≡ suc n
            → Fault y page s (suc n) e c
        go unused q [] p a b h = absurd (omega arith)
        go unused q (x ∷ xs) p a b h = not-used (sym h) record { row = q; filled = begun p }
        go (used must f cs) q [] p true b h =
            missing (sym h) record { format = f; codes = cs; row = q; asked = asks_asked b; empty = p }
        go (used must f cs) q [] p false b h = absurd (omega arith)
        go (used may f cs) q [] p a b h = absurd (omega arith)
        go (used k f cs) q (x ∷ xs) p a b h =
            inside k f cs q x xs p (fits_format y f (x ∷ xs)) (chosen cs (x ∷ xs)) refl refl (sym (used-filled y a k f cs (x ∷ xs) (begun refl)) ∙ h)

    -- and a fault is found
    pub fault-found : (n : ℕ) → Fault y page s n e c → found ≡ n
    fault-found n (not-used z w) = rw w.row (unused-filled y asks (text y s e c) w.filled ∙ sym z)
    fault-found n (missing z w) = rw (w.row, w.empty, asked_asks w.asked) (must-empty y w.format w.codes ∙ sym z)
    fault-found n (wrong-format z w) =
        rw w.row (used-filled y asks w.status w.format w.codes (text y s e c) w.filled ∙ rw w.outside (sym z))
    fault-found n (wrong-code z w) =
        rw w.row
        (used-filled y asks w.status w.format w.codes (text y s e c) w.filled
        ∙ rw (w.inside, off_list w.codes (text y s e c) w.coded w.other) (sym z))

    -- so a component is sound exactly if none is found
    pub found-sound : found ≡ 0 → Sound y page s e c
    found-sound h =
        let never : (n : ℕ) → Fault y page s (suc n) e c → ⊥ = λ n f. absurd (omega (arith, fault-found (suc n) f)) in
        record {
          in_use = λ w. never 17 (not-used refl w);
          present = λ w. never 16 (missing refl w);
          formed = λ w. never 18 (wrong-format refl w);
          listed = λ w. never 19 (wrong-code refl w);
        }

    pub sound-found : Sound y page s e c → found ≡ 0
    sound-found h = go found refl
      where
        faulty : (n : ℕ) → Fault y page s n e c → ⊥
        faulty n (not-used z w) = h.in_use w
        faulty n (missing z w) = h.present w
        faulty n (wrong-format z w) = h.formed w
        faulty n (wrong-code z w) = h.listed w

        go : (n : ℕ) → found ≡ n → found ≡ 0
        go zero z = z
        go (suc n) z = absurd (faulty (suc n) (found-fault n z))
