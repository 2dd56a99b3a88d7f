-- Positions that agree have the same print.
use Prim.Native.Nat.{ℕ, ◌+◌}
use mathlib.Core.Path.{◌≡◌, refl, sym, ap, ◌∙◌}
use mathlib.Core.Bool.{Bool, true, false, cond, ◌||◌, false≢true}
use mathlib.Core.List.{List, [], ◌∷◌}
use lib.ListN.{get_or, drop}
use lib.Dec.{eqb}
use Rattle.cut.specs.declared.service.Syntax.{Syntax}
use Rattle.element.specs.Elements.{elements}
use Rattle.plain.specs.Plain.{plain}
use Rattle.element.proofs.ComponentFace.{same_true}
use Rattle.agree.specs.Agreement.{same_text, all_empty, same_components, empty_elements, same_elements, agree_but, agree_in, Heading, agree}
use Rattle.sieve.specs.workers.Prints.{mixed_by, named_by, print_bytes, print_components, print_elements, print_segment, print_in, print_parts}
use Rattle.agree.specs.workers.Runs.{print_of}
use Rattle.bytewise.proofs.Booleans.{and_both}

module _ (y : Syntax) where
  text_print : (w : ℕ) (b c : List ℕ) (a : ℕ) → same_text y b c ≡ true → print_bytes w (plain y false b) a ≡ print_bytes w (plain y false c) a
  unfolding same_text
  text_print w b c a h = ap (λ (s : List ℕ). print_bytes w s a) (same_true _ _ h)

  -- a component without bytes changes nothing
  empty_print : (w : ℕ) (c : List ℕ) (a : ℕ) → same_text y [] c ≡ true → print_bytes w (plain y false c) a ≡ a
  unfolding print_bytes plain
  empty_print w c a h = sym (text_print w [] c a h)

  empties_print : (e c : ℕ) (cs : List (List ℕ)) (a : ℕ) → all_empty y cs ≡ true → print_components y e c cs a ≡ a
  unfolding all_empty print_components
  empties_print e c [] a h = refl
  empties_print e c (b ∷ cs) a h =
      let p = and_both (same_text y [] b) (all_empty y cs) h in
      let z : print_bytes (named_by e c) (plain y false b) a ≡ a = empty_print (named_by e c) b a p.0 in
      rw z (empties_print e (c + 1) cs a p.1)

  -- the first component and the others, of which all may be missing
  first_print
      : (e c : ℕ) (cs : List (List ℕ)) (a : ℕ)
      → print_components y e c cs a ≡ print_components y e (c + 1) (drop 1 cs) (print_bytes (named_by e c) (plain y false (get_or cs 0 [])) a)
  unfolding print_components print_bytes plain
  first_print e c [] a = refl
  first_print e c (b ∷ cs) a = refl

  components_print
      : (e c : ℕ) (bs cs : List (List ℕ)) (a : ℕ) → same_components y bs cs ≡ true → print_components y e c bs a ≡ print_components y e c cs a
  unfolding same_components print_components
  components_print e c [] cs a h = sym (empties_print e c cs a h)
  components_print e c (b ∷ bs) cs a h =
      let p = and_both (same_text y b (get_or cs 0 [])) (same_components y bs (drop 1 cs)) h in
      ap (λ (z : ℕ). print_components y e (c + 1) bs z) (text_print (named_by e c) b (get_or cs 0 []) a p.0)
      ∙ components_print e (c + 1) bs (drop 1 cs) _ p.1
      ∙ sym (first_print e c cs a)

  -- the print after an element that may be the one that is left out
  abbrev after : ℕ → ℕ → List (List ℕ) → ℕ → ℕ
  after x e bs a = cond (eqb e x) a (print_components y e 0 bs a)

  after_same : (x e : ℕ) (bs cs : List (List ℕ)) (a : ℕ) → eqb e x || same_components y bs cs ≡ true → after x e bs a ≡ after x e cs a
  after_same x e bs cs a h = go (eqb e x) h
    where
      go : (b : Bool) → b || same_components y bs cs ≡ true → cond b a (print_components y e 0 bs a) ≡ cond b a (print_components y e 0 cs a)
      go true k = refl
      go false k = components_print e 0 bs cs a k

  after-empty : (x e : ℕ) (cs : List (List ℕ)) (a : ℕ) → eqb e x || all_empty y cs ≡ true → after x e cs a ≡ a
  after-empty x e cs a h = go (eqb e x) h
    where
      go : (b : Bool) → b || all_empty y cs ≡ true → cond b a (print_components y e 0 cs a) ≡ a
      go true k = refl
      go false k = empties_print e 0 cs a k

  rest_print : (x e : ℕ) (fs : List (List (List ℕ))) (a : ℕ) → empty_elements y x e fs ≡ true → print_elements y x e fs a ≡ a
  unfolding empty_elements print_elements
  rest_print x e [] a h = refl
  rest_print x e (cs ∷ fs) a h =
      let p = and_both (eqb e x || all_empty y cs) (empty_elements y x (e + 1) fs) h in
      ap (λ (z : ℕ). print_elements y x (e + 1) fs z) (after-empty x e cs a p.0) ∙ rest_print x (e + 1) fs a p.1

  next_print : (x e : ℕ) (fs : List (List (List ℕ))) (a : ℕ) → print_elements y x e fs a ≡ print_elements y x (e + 1) (drop 1 fs) (after x e (get_or fs 0 []) a)
  unfolding print_elements print_components
  next_print x e [] a = go (eqb e x)
    where
      go : (b : Bool) → a ≡ cond b a a
      go true = refl
      go false = refl
  next_print x e (cs ∷ fs) a = refl

  elements_print
      : (x e : ℕ) (es fs : List (List (List ℕ))) (a : ℕ) → same_elements y x e es fs ≡ true → print_elements y x e es a ≡ print_elements y x e fs a
  unfolding same_elements print_elements
  elements_print x e [] fs a h = sym (rest_print x e fs a h)
  elements_print x e (bs ∷ es) fs a h =
      let p = and_both (eqb e x || same_components y bs (get_or fs 0 [])) (same_elements y x (e + 1) es (drop 1 fs)) h in
      ap (λ (z : ℕ). print_elements y x (e + 1) es z) (after_same x e bs (get_or fs 0 []) a p.0)
      ∙ elements_print x (e + 1) es (drop 1 fs) _ p.1
      ∙ sym (next_print x e fs a)

  segment_print : (x : ℕ) (s t : List ℕ) (a : ℕ) → agree_but y x s t ≡ true → print_segment y x s a ≡ print_segment y x t a
  unfolding agree_but print_segment
  segment_print x s t a h = elements_print x 0 (elements y s) (elements y t) a h

  in_print : (ss ts : List (List ℕ)) (a : ℕ) → agree_in y ss ts ≡ true → print_in y ss a ≡ print_in y ts a
  unfolding agree_in print_in
  in_print [] [] a h = refl
  in_print [] (t ∷ ts) a h = absurd (false≢true h)
  in_print (s ∷ ss) [] a h = absurd (false≢true h)
  in_print (s ∷ ss) (t ∷ ts) a h =
      let p = and_both (agree_but y 0 s t) (agree_in y ss ts) h in
      ap (λ (z : ℕ). print_in y ss z) (segment_print 0 s t a p.0) ∙ in_print ss ts _ p.1

  pub agree_print : (p q : Heading) → agree y p q ≡ true → print_of y p ≡ print_of y q
  unfolding agree print_of print_parts
  agree_print p q h =
      let a = and_both _ _ h in
      let b = and_both _ _ a.1 in
      ap (λ (z : ℕ). mixed_by z 0 0)
      (ap (λ (z : ℕ). print_in y p.imd (print_in y p.pia z)) (segment_print 1 p.lin q.lin 0 a.0)
      ∙ ap (λ (z : ℕ). print_in y p.imd z) (in_print p.pia q.pia _ b.0)
      ∙ in_print p.imd q.imd _ b.1)
