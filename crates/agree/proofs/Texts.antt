-- The tests of agreement mean what the guide says: they are true exactly if every component agrees.
use Prim.Native.Nat.{ℕ, zero, suc, ◌+◌}
use mathlib.Core.Path.{◌≡◌, refl, sym, ap, ◌∙◌}
use mathlib.Core.Bool.{Bool, true, false, ◌||◌, false≢true}
use mathlib.Core.List.{List, [], ◌∷◌}
use native.Mathlib.Nat.{zero-add}
use native.Mathlib.Omega.{arith}
use lib.ListN.{get_or, drop}
use lib.Dec.{eqb}
use borrow.Author.Tests.{ne_eqb, eqb-false}
use Rattle.cut.specs.declared.service.Syntax.{Syntax}
use Rattle.cut.specs.Segments.{Segment}
use Rattle.element.specs.Elements.{elements, component}
use Rattle.plain.specs.Plain.{plain}
use Rattle.element.proofs.ComponentFace.{same_refl, same_true}
use Rattle.guide.specs.Content.{text}
use Rattle.guide.specs.Sheet.{Position}
use Rattle.guide.specs.Accepted.{AgreeBut, AgreeIn, Agree}
use Rattle.bytewise.proofs.Booleans.{and_both, both-and}
use Rattle.agree.specs.Agreement.{
  same_text,
  all_empty,
  same_components,
  empty_elements,
  same_elements,
  agree_but,
  agree_in,
  Heading,
  bytes_in,
  heading_of,
  agree,
}

-- two components, two rows of components and two rows of elements agree, releases removed
abbrev Same : Syntax → List ℕ → List ℕ → Type 0
Same y b c = plain y false b ≡ plain y false c

abbrev SameIn : Syntax → List (List ℕ) → List (List ℕ) → Type 0
SameIn y bs cs = (c : ℕ) → Same y (get_or bs c []) (get_or cs c [])

module _ (y : Syntax) where
  text_same : (b c : List ℕ) → same_text y b c ≡ true → Same y b c
  unfolding same_text
  text_same b c h = same_true _ _ h

  same-text : (b c : List ℕ) → Same y b c → same_text y b c ≡ true
  unfolding same_text
  same-text b c h = rw h (same_refl _)

  get_or-tail : {A : Type 0} (xs : List A) (n : ℕ) (z : A) → get_or (drop 1 xs) n z ≡ get_or xs (suc n) z
  get_or-tail [] n z = refl
  get_or-tail (x ∷ xs) n z = refl

  empty-same : (cs : List (List ℕ)) → all_empty y cs ≡ true → SameIn y [] cs
  unfolding all_empty
  empty-same [] h c = refl
  empty-same (b ∷ cs) h zero = text_same [] b (and_both (same_text y [] b) (all_empty y cs) h).0
  empty-same (b ∷ cs) h (suc c) = empty-same cs (and_both (same_text y [] b) (all_empty y cs) h).1 c

  same-empty : (cs : List (List ℕ)) → SameIn y [] cs → all_empty y cs ≡ true
  unfolding all_empty
  same-empty [] h = refl
  same-empty (b ∷ cs) h = both-and _ _ (same-text [] b (h 0)) (same-empty cs (λ c. h (suc c)))

  components-same : (bs cs : List (List ℕ)) → same_components y bs cs ≡ true → SameIn y bs cs
  unfolding same_components
  components-same [] cs h c = empty-same cs h c
  components-same (b ∷ bs) cs h zero = text_same b (get_or cs 0 []) (and_both (same_text y b (get_or cs 0 [])) (same_components y bs (drop 1 cs)) h).0
  components-same (b ∷ bs) cs h (suc c) =
      components-same bs (drop 1 cs) (and_both (same_text y b (get_or cs 0 [])) (same_components y bs (drop 1 cs)) h).1 c
      ∙ ap (plain y false) (get_or-tail cs c [])

  same-components : (bs cs : List (List ℕ)) → SameIn y bs cs → same_components y bs cs ≡ true
  unfolding same_components
  same-components [] cs h = same-empty cs h
  same-components (b ∷ bs) cs h =
      both-and _ _ (same-text b (get_or cs 0 []) (h 0))
      (same-components bs (drop 1 cs) (λ c. h (suc c) ∙ sym (ap (plain y false) (get_or-tail cs c []))))

  -- two elements with the number e agree, unless it is the number x
  abbrev Skips : ℕ → ℕ → List (List ℕ) → List (List ℕ) → Type 0
  Skips x e bs cs = (e ≡ x → ⊥) → SameIn y bs cs

  skip_same : (x e : ℕ) (bs cs : List (List ℕ)) (t : Bool) → (t ≡ true → SameIn y bs cs) → eqb e x || t ≡ true → Skips x e bs cs
  skip_same x e bs cs t f h n = f (rw (ne_eqb e x n) at h)

  same_skip : (x e : ℕ) (bs cs : List (List ℕ)) (t : Bool) → (SameIn y bs cs → t ≡ true) → Skips x e bs cs → eqb e x || t ≡ true
  same_skip x e bs cs t f h = go (eqb e x) refl
    where
      go : (b : Bool) → eqb e x ≡ b → b || t ≡ true
      go true q = refl
      go false q = f (h (eqb-false e x q))

  -- the elements from the number e on, counted from there
  abbrev Agrees : ℕ → ℕ → List (List (List ℕ)) → List (List (List ℕ)) → Type 0
  Agrees x e es fs = (i : ℕ) → Skips x (e + i) (get_or es i []) (get_or fs i [])

  agrees_first
      : (x e : ℕ) (es fs : List (List (List ℕ))) → Skips x e (get_or es 0 []) (get_or fs 0 []) → Agrees x (e + 1) (drop 1 es) (drop 1 fs) → Agrees x e es fs
  agrees_first x e es fs h k zero =
      let z : e + 0 ≡ e = omega arith in
      rw z h
  agrees_first x e es fs h k (suc i) =
      let z : e + suc i ≡ e + 1 + i = omega arith in
      rw (z, ← get_or-tail es i [], ← get_or-tail fs i []) (k i)

  first-agrees
      : (x e : ℕ) (es fs : List (List (List ℕ))) → Agrees x e es fs → Skips x e (get_or es 0 []) (get_or fs 0 []) × Agrees x (e + 1) (drop 1 es) (drop 1 fs)
  first-agrees x e es fs h = (first, rest)
    where
      first : Skips x e (get_or es 0 []) (get_or fs 0 [])
      first =
          let z : e + 0 ≡ e = omega arith in
          rw z at (h 0)

      rest : Agrees x (e + 1) (drop 1 es) (drop 1 fs)
      rest i =
          let z : e + suc i ≡ e + 1 + i = omega arith in
          rw (get_or-tail es i [], get_or-tail fs i [], ← z) (h (suc i))

  rest-same : (x e : ℕ) (fs : List (List (List ℕ))) → empty_elements y x e fs ≡ true → Agrees x e [] fs
  unfolding empty_elements
  rest-same x e [] h = λ i n c. refl
  rest-same x e (cs ∷ fs) h =
      let p = and_both (eqb e x || all_empty y cs) (empty_elements y x (e + 1) fs) h in
      agrees_first x e [] (cs ∷ fs) (skip_same x e [] cs (all_empty y cs) (empty-same cs) p.0) (rest-same x (e + 1) fs p.1)

  same_rest : (x e : ℕ) (fs : List (List (List ℕ))) → Agrees x e [] fs → empty_elements y x e fs ≡ true
  unfolding empty_elements
  same_rest x e [] h = refl
  same_rest x e (cs ∷ fs) h =
      let p = first-agrees x e [] (cs ∷ fs) h in
      both-and _ _ (same_skip x e [] cs (all_empty y cs) (same-empty cs) p.0) (same_rest x (e + 1) fs p.1)

  elements_same : (x e : ℕ) (es fs : List (List (List ℕ))) → same_elements y x e es fs ≡ true → Agrees x e es fs
  unfolding same_elements
  elements_same x e [] fs h = rest-same x e fs h
  elements_same x e (bs ∷ es) fs h =
      let p = and_both (eqb e x || same_components y bs (get_or fs 0 [])) (same_elements y x (e + 1) es (drop 1 fs)) h in
      agrees_first x e (bs ∷ es) fs
      (skip_same x e bs (get_or fs 0 []) (same_components y bs (get_or fs 0 [])) (components-same bs (get_or fs 0 [])) p.0)
      (elements_same x (e + 1) es (drop 1 fs) p.1)

  same-elements : (x e : ℕ) (es fs : List (List (List ℕ))) → Agrees x e es fs → same_elements y x e es fs ≡ true
  unfolding same_elements
  same-elements x e [] fs h = same_rest x e fs h
  same-elements x e (bs ∷ es) fs h =
      let p = first-agrees x e (bs ∷ es) fs h in
      both-and _ _ (same_skip x e bs (get_or fs 0 []) (same_components y bs (get_or fs 0 [])) (same-components bs (get_or fs 0 [])) p.0)
      (same-elements x (e + 1) es (drop 1 fs) p.1)

  -- two segments: the test is true exactly if they agree in all their components, but for those of the element x
  pub but_agree : (x : ℕ) (s t : Segment) → agree_but y x s.bytes t.bytes ≡ true → AgreeBut y x s t
  unfolding agree_but text component
  but_agree x s t h e c n =
      let z : 0 + e ≡ e = omega arith in
      elements_same x 0 (elements y s.bytes) (elements y t.bytes) h e (rw z n) c

  pub agree-but : (x : ℕ) (s t : Segment) → AgreeBut y x s t → agree_but y x s.bytes t.bytes ≡ true
  unfolding agree_but text component
  agree-but x s t h = same-elements x 0 (elements y s.bytes) (elements y t.bytes) (λ e n c. h e c (λ q. n (zero-add e ∙ q)))

  -- and the other way round
  but_turned : (x : ℕ) (s t : List ℕ) → agree_but y x s t ≡ true → agree_but y x t s ≡ true
  unfolding agree_but
  but_turned x s t h = same-elements x 0 (elements y t) (elements y s) (λ i n c. sym (elements_same x 0 (elements y s) (elements y t) h i n c))

  in_turned : (ss ts : List (List ℕ)) → agree_in y ss ts ≡ true → agree_in y ts ss ≡ true
  unfolding agree_in
  in_turned [] [] h = refl
  in_turned [] (t ∷ ts) h = absurd (false≢true h)
  in_turned (s ∷ ss) [] h = absurd (false≢true h)
  in_turned (s ∷ ss) (t ∷ ts) h =
      let p = and_both (agree_but y 0 s t) (agree_in y ss ts) h in
      both-and _ _ (but_turned 0 s t p.0) (in_turned ss ts p.1)

  pub agree_turned : (p q : Heading) → agree y p q ≡ true → agree y q p ≡ true
  unfolding agree
  agree_turned p q h =
      let a = and_both _ _ h in
      let b = and_both _ _ a.1 in
      both-and _ _ (but_turned 1 p.lin q.lin a.0) (both-and _ _ (in_turned p.pia q.pia b.0) (in_turned p.imd q.imd b.1))

  pub in_agree : (ss ts : List Segment) → agree_in y (bytes_in ss) (bytes_in ts) ≡ true → AgreeIn y ss ts
  unfolding agree_in AgreeIn
  in_agree [] [] h = tt
  in_agree [] (t ∷ ts) h = false≢true h
  in_agree (s ∷ ss) [] h = false≢true h
  in_agree (s ∷ ss) (t ∷ ts) h =
      let p = and_both (agree_but y 0 s.bytes t.bytes) (agree_in y (bytes_in ss) (bytes_in ts)) h in
      (but_agree 0 s t p.0, in_agree ss ts p.1)

  pub agree-in : (ss ts : List Segment) → AgreeIn y ss ts → agree_in y (bytes_in ss) (bytes_in ts) ≡ true
  unfolding agree_in AgreeIn
  agree-in [] [] h = refl
  agree-in [] (t ∷ ts) h = absurd h
  agree-in (s ∷ ss) [] h = absurd h
  agree-in (s ∷ ss) (t ∷ ts) h = both-and _ _ (agree-but 0 s t h.0) (agree-in ss ts h.1)

  -- two positions: the test is true exactly if they agree
  pub heading-agree : (p q : Position) → agree y (heading_of p) (heading_of q) ≡ true → Agree y p q
  unfolding agree
  heading-agree p q h =
      let a = and_both _ _ h in
      let b = and_both _ _ a.1 in
      record { lin = but_agree 1 p.lin q.lin a.0; pia = in_agree p.pia q.pia b.0; imd = in_agree p.imd q.imd b.1 }

  pub agree-heading : (p q : Position) → Agree y p q → agree y (heading_of p) (heading_of q) ≡ true
  unfolding agree
  agree-heading p q h =
      both-and _ _ (agree-but 1 p.lin q.lin h.lin)
      (both-and _ _ (agree-in p.pia q.pia h.pia) (agree-in p.imd q.imd h.imd))
