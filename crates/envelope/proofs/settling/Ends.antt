-- The first and the last of a delivery's segments: there is one of each, where there is any.
use Prim.Native.Nat.{ℕ}
use mathlib.Core.Path.{◌≡◌, refl, sym, ◌∙◌, ap}
use mathlib.Core.List.Memᴰ
use mathlib.Core.List.{List, [], ◌∷◌, ◌++◌, head-eq_of_cons-eq, tail-eq_of_cons-eq, nil≢cons, Memᴰ}
use Rattle.cut.specs.declared.service.Syntax.{Syntax}
use Rattle.cut.specs.Segments.{Segment}
use Rattle.cut.specs.Admission.{segments}
use Rattle.envelope.specs.Envelope.{last_of}
use Rattle.envelope.specs.Broken.{First, Last}

last-split : (f : Segment) (ss : List Segment) → (front : List Segment) × (f ∷ ss ≡ front ++ (last_of f ss ∷ []))
unfolding last_of
last-split f [] = ([], refl)
last-split f (s ∷ ss) =
    let r = last-split s ss in
    (f ∷ r.0, ap (λ (us : List Segment). f ∷ us) r.1)

not-empty : (gs : List Segment) (l : Segment) → [] ≡ gs ++ (l ∷ []) → ⊥
not-empty [] l h = nil≢cons h
not-empty (g ∷ gs) l h = nil≢cons h

last-same : (f : Segment) (ss front : List Segment) (l : Segment) → f ∷ ss ≡ front ++ (l ∷ []) → l ≡ last_of f ss
unfolding last_of
last-same f [] [] l h = sym (head-eq_of_cons-eq h)
last-same f [] (g ∷ gs) l h = absurd (not-empty gs l (tail-eq_of_cons-eq h))
last-same f (s ∷ ss) [] l h = absurd (nil≢cons (sym (tail-eq_of_cons-eq h)))
last-same f (s ∷ ss) (g ∷ gs) l h = last-same s ss gs l (tail-eq_of_cons-eq h)

module _ (y : Syntax) (d : List ℕ) where
  pub no_first : segments y d ≡ [] → (f : Segment) → First y d f → ⊥
  no_first e f h = nil≢cons (sym e ∙ h.same)

  pub no_last : segments y d ≡ [] → (l : Segment) → Last y d l → ⊥
  no_last e l h = not-empty h.front l (sym e ∙ h.same)

  module _ (f : Segment) (ss : List Segment) (e : segments y d ≡ f ∷ ss) where
    pub is_first : First y d f
    is_first = record { rest = ss; same = e }

    pub one-first : (g : Segment) → First y d g → g ≡ f
    one-first g h = head-eq_of_cons-eq (sym h.same ∙ e)

    pub is_last : Last y d (last_of f ss)
    is_last =
        let r = last-split f ss in
        record { front = r.0; same = e ∙ r.1 }

    pub one_last : (l : Segment) → Last y d l → l ≡ last_of f ss
    one_last l h = last-same f ss h.front l (sym e ∙ h.same)

  pub first_member : (f : Segment) → First y d f → Memᴰ f (segments y d)
  first_member f h = rw h.same (Memᴰ.head refl)

  pub last-member : (l : Segment) → Last y d l → Memᴰ l (segments y d)
  last-member l h = rw h.same (Memᴰ.append_right h.front (Memᴰ.head refl))

  pub first-first : (f g : Segment) → First y d f → First y d g → f ≡ g
  first-first f g h k = one-first g k.rest k.same f h

  pub last-last : (l k : Segment) → Last y d l → Last y d k → l ≡ k
  last-last l k h i = go (segments y d) refl
    where
      go : (ss : List Segment) → segments y d ≡ ss → l ≡ k
      go [] e = absurd (no_last e l h)
      go (f ∷ ss) e = one_last f ss e l h ∙ sym (one_last f ss e k i)
