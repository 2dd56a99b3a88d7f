-- The first fault of an element in one pass: the moods of the element tell it.
use Prim.Native.Nat.{ℕ}
use mathlib.Core.Bool.{Bool, true, false, ◌&&◌, ◌||◌, and-false, true≢false, cond}
use mathlib.Core.Path.{◌≡◌, refl, sym, ◌∙◌}
use mathlib.Core.List.{List, [], ◌∷◌}
use lib.ListN.{get_or, drop}
use Rattle.cut.specs.declared.service.Syntax.{Syntax}
use Rattle.plain.specs.Plain.{plain}
use Rattle.value.specs.Numeral.{some, none}
use Rattle.guide.specs.Page.{must, may, Row, used, unused, Composite, beyond}
use Rattle.guide.specs.workers.PageFault.{first_of, not_used, missing, wrong_format, wrong_code, text_fault, component_fault, any_filled, element_fault}
use Rattle.guide.specs.Choices.{pickℕ, or_else}
use Rattle.guide.specs.workers.Moods.{asking, idle, owing, is_must, opened, mood_after, mood_fault, any_must, end_fault, pass_fault, absent_fault}
use Rattle.guide.proofs.pages.Scanned.{first_of_scan, none_scan}
use Rattle.guide.proofs.pages.Listing.{begun, found-filled}

pub first_of_step
    : {A B : Type 0} (f : A → B → ℕ) (a : A) (b : B) (rs : List A) (t : B) (ts : List B)
    → first_of f a b rs (t ∷ ts) ≡ or_else (f (get_or rs 0 a) t) (first_of f a b (drop 1 rs) ts)
unfolding first_of
first_of_step f a b [] t ts = refl
first_of_step f a b (r ∷ rs) t ts = refl

module _ (y : Syntax) where
  -- at an empty component: missing, where a must component is asked for
  pub empty-fault : (asked : Bool) (r : Row) → text_fault y asked r [] ≡ pickℕ (is_must r && asked) 17 0
  unfolding text_fault not_used missing wrong_format wrong_code some none is_must
  empty-fault asked (used must f cs) = refl
  empty-fault asked (used may f cs) = refl
  empty-fault asked unused = refl

  -- at one that stands nothing is missing
  pub filled-fault : (r : Row) (x : ℕ) (xs : List ℕ) → text_fault y false r (x ∷ xs) ≡ text_fault y true r (x ∷ xs)
  unfolding text_fault not_used missing none
  filled-fault (used must f cs) x xs = refl
  filled-fault (used may f cs) x xs = refl
  filled-fault unused x xs = refl

  -- an element that asks for nothing and has nothing has no fault
  unfilled : (bs : List (List ℕ)) → any_filled y bs ≡ false → (c : ℕ) → plain y false (get_or bs c []) ≡ []
  unfilled bs h c = go (plain y false (get_or bs c [])) refl
    where
      go : (t : List ℕ) → plain y false (get_or bs c []) ≡ t → plain y false (get_or bs c []) ≡ []
      go [] p = p
      go (x ∷ xs) p = absurd (true≢false (sym (found-filled y bs c (begun p)) ∙ h))

  calm : (rs : List Row) (bs : List (List ℕ)) → any_filled y bs ≡ false → first_of (component_fault y false) unused [] rs bs ≡ 0
  unfolding component_fault text_fault not_used missing wrong_format wrong_code some plain
  calm rs bs h =
      none_scan (first_of_scan (component_fault y false) unused [] refl rs bs)
      (λ i. rw (unfilled bs h i) (empty-fault false (get_or rs i unused) ∙ rw (and-false (is_must (get_or rs i unused)))))

  -- the rows behind the last component
  rows_left : (rs : List Row) → pickℕ (any_must rs) 17 0 ≡ first_of (component_fault y true) unused [] rs []
  unfolding any_must first_of component_fault plain
  rows_left [] = refl
  rows_left (r ∷ rs) = go (is_must r) refl (rows_left rs)
    where
      go
          : (w : Bool) → is_must r ≡ w → pickℕ (any_must rs) 17 0 ≡ first_of (component_fault y true) unused [] rs []
          → pickℕ (is_must r || any_must rs) 17 0 ≡ or_else (text_fault y true r []) (first_of (component_fault y true) unused [] rs [])
      go true e h = rw (empty-fault true r, e)
      go false e h = rw (empty-fault true r, e) h

  asking_pass : (rs : List Row) (bs : List (List ℕ)) → pass_fault y asking rs bs ≡ first_of (component_fault y true) unused [] rs bs
  unfolding pass_fault end_fault mood_fault mood_after component_fault
  asking_pass rs [] = rows_left rs
  asking_pass rs (b ∷ bs) = rw (asking_pass (drop 1 rs) bs) (sym (first_of_step (component_fault y true) unused [] rs b bs))

  owing_pass : (rs : List Row) (bs : List (List ℕ)) → pass_fault y owing rs bs ≡ pickℕ (any_filled y bs) 17 0
  unfolding pass_fault end_fault mood_fault mood_after any_filled
  owing_pass rs [] = refl
  owing_pass rs (b ∷ bs) = go (some (plain y false b)) (owing_pass (drop 1 rs) bs)
    where
      go
          : (w : Bool) → pass_fault y owing (drop 1 rs) bs ≡ pickℕ (any_filled y bs) 17 0
          → or_else (pickℕ w 17 0) (pass_fault y owing (drop 1 rs) bs) ≡ pickℕ (w || any_filled y bs) 17 0
      go true h = refl
      go false h = h

  -- one component further, where none has stood so far
  module _ (r : Row) (rs : List Row) (bs : List (List ℕ)) (more : pass_fault y idle rs bs ≡ first_of (component_fault y (any_filled y bs)) unused [] rs bs)
    where
      idle_empty
          : (m w : Bool) → is_must r ≡ m → any_filled y bs ≡ w
          → or_else (text_fault y false r []) (pass_fault y (cond m owing idle) rs bs)
          ≡ or_else (text_fault y w r []) (first_of (component_fault y w) unused [] rs bs)
      idle_empty true true e f = rw (empty-fault false r, empty-fault true r, e, owing_pass rs bs, f)
      idle_empty true false e f = rw (empty-fault false r, e, owing_pass rs bs, f) (sym (calm rs bs f))
      idle_empty false w e f = rw (empty-fault false r, empty-fault w r, e) (more ∙ rw f)

      idle_next
          : (t : List ℕ)
          → or_else (text_fault y false r t) (pass_fault y (mood_after idle r t) rs bs)
          ≡ or_else (text_fault y (some t || any_filled y bs) r t) (first_of (component_fault y (some t || any_filled y bs)) unused [] rs bs)
      unfolding some mood_after
      idle_next [] = idle_empty (is_must r) (any_filled y bs) refl refl
      idle_next (x ∷ xs) = rw (filled-fault r x xs, asking_pass rs bs)

  idle_pass : (rs : List Row) (bs : List (List ℕ)) → pass_fault y idle rs bs ≡ first_of (component_fault y (any_filled y bs)) unused [] rs bs
  unfolding pass_fault end_fault mood_fault any_filled component_fault
  idle_pass rs [] = sym (calm rs [] refl)
  idle_pass rs (b ∷ bs) =
      idle_next (get_or rs 0 unused) (drop 1 rs) bs (idle_pass (drop 1 rs) bs) (plain y false b)
      ∙ sym (first_of_step (component_fault y (any_filled y (b ∷ bs))) unused [] rs b bs)

  -- so one pass gives the first fault of an element
  pub element_pass : (k : Composite) (bs : List (List ℕ)) → pass_fault y (opened k) k.rows bs ≡ element_fault y k bs
  unfolding element_fault opened
  element_pass k bs = go k.required
    where
      go
          : (q : Bool)
          → pass_fault y (cond q asking idle) k.rows bs ≡ first_of (component_fault y (q || any_filled y bs)) unused [] k.rows bs
      go true = asking_pass k.rows bs
      go false = idle_pass k.rows bs

-- the fault of an element that does not stand: a must row of a required one is missing
alone : (y : Syntax) (k : Composite) → element_fault y k [] ≡ pickℕ (k.required && any_must k.rows) 17 0
unfolding pass_fault end_fault opened
alone y k = sym (element_pass y k []) ∙ go k.required
  where
    go : (q : Bool) → end_fault (cond q asking idle) k.rows ≡ pickℕ (q && any_must k.rows) 17 0
    go true = refl
    go false = refl

-- and of several
pub absent_pass : (y : Syntax) (ks : List Composite) → first_of (element_fault y) beyond [] ks [] ≡ absent_fault ks
unfolding first_of absent_fault
absent_pass y [] = refl
absent_pass y (k ∷ ks) = rw (alone y k, absent_pass y ks) (go (k.required && any_must k.rows))
  where
    go : (b : Bool) → or_else (pickℕ b 17 0) (absent_fault ks) ≡ pickℕ b 17 (absent_fault ks)
    go true = refl
    go false = refl
