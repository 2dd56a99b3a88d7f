-- The first fault of a segment against its page. Document 01, 'Refusal numbers': "components left to right (18, 17, 19, 20 at each)".
use Rattle.std.specs.Prelude.{ℕ, Bool, false, not, ◌&&◌, ◌||◌, List, [], ◌∷◌, drop}
use Rattle.cut.specs.declared.service.Syntax.{Syntax}
use Rattle.element.specs.Elements.{elements}
use Rattle.plain.specs.Plain.{plain}
use Rattle.value.specs.Numeral.{some, none}
use Rattle.value.specs.Format.{fits_format}
use Rattle.guide.specs.Choices.{pickℕ, or_else}
use Rattle.guide.specs.Nodes.{chosen}
use Rattle.guide.specs.Page.{must, may, Row, used, unused, Composite, Page, beyond}

-- two rows side by side, the shorter one filled up: the first fault f of a pair
module _ {A B : Type 0} (f : A → B → ℕ) (a : A) (b : B) where
  unfoldable pub first_of : List A → List B → ℕ
  first_of [] [] = 0
  first_of [] (t ∷ ts) = or_else (f a t) (first_of [] ts)
  first_of (r ∷ rs) [] = or_else (f r b) (first_of rs [])
  first_of (r ∷ rs) (t ∷ ts) = or_else (f r t) (first_of rs ts)

-- 18, "component not used"
unfoldable pub not_used : Row → List ℕ → Bool
not_used (used s f cs) t = false
not_used unused t = some t

-- 17, "missing", in an element that asks for its components or not
unfoldable pub missing : Bool → Row → List ℕ → Bool
missing asked (used must f cs) t = none t && asked
missing asked (used may f cs) t = false
missing asked unused t = false

-- 19, "wrong format"
unfoldable pub wrong_format : Syntax → Row → List ℕ → Bool
wrong_format y (used s f cs) t = some t && not (fits_format y f t)
wrong_format y unused t = false

-- 20, "code not on its page"
unfoldable pub wrong_code : Row → List ℕ → Bool
wrong_code (used s f cs) t = some t && not (chosen cs t)
wrong_code unused t = false

-- "18, 17, 19, 20 at each"
unfoldable pub text_fault : Syntax → Bool → Row → List ℕ → ℕ
text_fault y asked r t =
    pickℕ (not_used r t) 18
    (pickℕ (missing asked r t) 17
    (pickℕ (wrong_format y r t) 19
    (pickℕ (wrong_code r t) 20 0)))

-- the fault of a component, "releases removed"
unfoldable pub component_fault : Syntax → Bool → Row → List ℕ → ℕ
component_fault y asked r bytes = text_fault y asked r (plain y false bytes)

-- whether any of an element's components is not empty
unfoldable pub any_filled : Syntax → List (List ℕ) → Bool
any_filled y [] = false
any_filled y (b ∷ bs) = some (plain y false b) || any_filled y bs

-- the first fault of an element; a component beyond the last row is not used, one that does not stand is empty
unfoldable pub element_fault : Syntax → Composite → List (List ℕ) → ℕ
element_fault y k bs = first_of (component_fault y (k.required || any_filled y bs)) unused [] k.rows bs

-- the first fault of a segment, or 0: its elements behind the tag, one that does not stand without components
unfoldable pub page_fault : Syntax → Page → List ℕ → ℕ
page_fault y page s = first_of (element_fault y) beyond [] page (drop 1 (elements y s))
