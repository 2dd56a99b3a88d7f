-- The first fault of a segment in one pass over its components: what a component adds, and what the next element.
use Prim.Native.Nat.{ℕ, zero, suc, ◌+◌, ◌<◌}
use mathlib.Core.Bool.{false}
use mathlib.Core.Path.{◌≡◌, refl, sym, ap, ◌∙◌}
use mathlib.Core.List.{List, [], ◌∷◌}
use native.Mathlib.Numerals.{add-one}
use native.Mathlib.Omega.{arith}
use lib.ListN.{length, get_or, drop}
use Rattle.cut.specs.declared.service.Syntax.{Syntax}
use Rattle.element.specs.Elements.{split_from, elements}
use Rattle.plain.specs.Plain.{plain}
use Rattle.guide.specs.Page.{unused, Page, beyond, element_of, row_of}
use Rattle.guide.specs.workers.PageFault.{first_of, element_fault, page_fault}
use Rattle.guide.specs.Choices.{or_else}
use Rattle.guide.specs.workers.Moods.{Mood, opened, mood_after, mood_fault, pass_fault, absent_fault}
use Rattle.guide.proofs.pages.OnePass.{first_of_step, element_pass, absent_pass}

module _ {A : Type 0} where
  drop-one : (l : List A) (n : ℕ) → drop 1 (drop n l) ≡ drop (suc n) l
  drop-one [] zero = refl
  drop-one [] (suc n) = refl
  drop-one (x ∷ xs) zero = refl
  drop-one (x ∷ xs) (suc n) = drop-one xs n

  drop_more : (l : List A) (n : ℕ) → drop 1 (drop n l) ≡ drop (n + 1) l
  drop_more l n = drop-one l n ∙ ap (λ (k : ℕ). drop k l) (sym (add-one n))

  front : (l : List A) (n : ℕ) (d : A) → get_or (drop n l) 0 d ≡ get_or l n d
  front [] zero d = refl
  front [] (suc n) d = refl
  front (x ∷ xs) zero d = refl
  front (x ∷ xs) (suc n) d = front xs n d

module _ (y : Syntax) (page : Page) where
  -- what is found in the elements es, which stand behind element e
  unfoldable pub behind_fault : ℕ → List (List (List ℕ)) → ℕ
  behind_fault e es = first_of (element_fault y) beyond [] (drop e page) es

  -- where the segment begins, it stands in the tag
  pub segment_pass : (s : List ℕ) → 0 < length s → behind_fault 0 (split_from y false s).elements ≡ page_fault y page s
  unfolding behind_fault page_fault elements
  segment_pass [] h = absurd (omega arith)
  segment_pass (x ∷ xs) h = refl

  -- one component of element e further
  pub pass_component
      : (e c : ℕ) (m : Mood) (b : List ℕ) (bs : List (List ℕ))
      → pass_fault y m (drop c (element_of page e).rows) (b ∷ bs)
      ≡ or_else (mood_fault y m (row_of page e c) (plain y false b))
      (pass_fault y (mood_after m (row_of page e c) (plain y false b)) (drop (c + 1) (element_of page e).rows) bs)
  unfolding pass_fault row_of
  pass_component e c m b bs = rw (front (element_of page e).rows c unused, drop_more (element_of page e).rows c)

  element-next : (e : ℕ) → get_or (drop e page) 0 beyond ≡ element_of page (e + 1)
  unfolding element_of
  element-next e = front page e beyond ∙ rw (add-one e)

  -- the next element, with the components bs
  pub pass_element
      : (e : ℕ) (bs : List (List ℕ)) (es : List (List (List ℕ)))
      → behind_fault e (bs ∷ es) ≡ or_else (pass_fault y (opened (element_of page (e + 1))) (element_of page (e + 1)).rows bs) (behind_fault (e + 1) es)
  unfolding behind_fault
  pass_element e bs es =
      first_of_step (element_fault y) beyond [] (drop e page) bs es
      ∙ rw (element-next e, drop_more page e, element_pass y (element_of page (e + 1)) bs)

  -- no element is left
  pub pass_absent : (e : ℕ) → behind_fault e [] ≡ absent_fault (drop e page)
  unfolding behind_fault
  pass_absent e = absent_pass y (drop e page)

  -- a part without a byte has no element
  pub empty_pass : (s : List ℕ) → s ≡ [] → absent_fault (drop 0 page) ≡ page_fault y page s
  unfolding page_fault elements
  empty_pass s h = rw h (sym (absent_pass y page))
