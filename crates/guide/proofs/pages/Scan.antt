-- The first fault of a segment is found by a scan of its elements, and that of an element by a scan of its components.
use Prim.Native.Nat.{ℕ, suc}
use mathlib.Core.Path.{◌≡◌, refl}
use mathlib.Core.List.{List, [], ◌∷◌}
use lib.ListN.{get_or, drop}
use Rattle.cut.specs.declared.service.Syntax.{Syntax}
use Rattle.element.specs.Elements.{elements, component}
use Rattle.plain.specs.Plain.{plain}
use Rattle.value.specs.Numeral.{some}
use Rattle.guide.specs.Page.{unused, Page, beyond, element_of, row_of}
use Rattle.guide.specs.Content.{text, Sound}
use Rattle.guide.specs.workers.PageFault.{first_of, not_used, missing, wrong_format, wrong_code, text_fault, component_fault, element_fault, page_fault}
use Rattle.guide.proofs.pages.Scanned.{Scan, first_of_scan, scan_none, none_scan}
use Rattle.guide.proofs.pages.Faults.{asks, found, found-sound, sound-found}

module _ (y : Syntax) (page : Page) (s : List ℕ) where
  -- the first fault of element e
  abbrev pub found_in : ℕ → ℕ
  found_in e = element_fault y (element_of page e) (get_or (elements y s) e [])

  pub element_scan : (e : ℕ) → Scan (λ c. found y page s e c) (found_in e)
  unfolding first_of element_fault component_fault text_fault not_used missing wrong_format wrong_code some plain row_of text component
  element_scan e = first_of_scan (component_fault y (asks y page s e)) unused [] refl (element_of page e).rows (get_or (elements y s) e [])

  -- in an element: no fault exactly if all its components are sound
  pub element-sound : (e : ℕ) → found_in e ≡ 0 → (c : ℕ) → Sound y page s e c
  element-sound e h c = found-sound y page s e c (scan_none (element_scan e) h c)

  pub sound-element : (e : ℕ) → ((c : ℕ) → Sound y page s e c) → found_in e ≡ 0
  sound-element e h = none_scan (element_scan e) (λ c. sound-found y page s e c (h c))

  -- the elements behind the tag
  behind_tag
      : (es : List (List (List ℕ)))
      → Scan (λ i. element_fault y (get_or page i beyond) (get_or es (suc i) [])) (first_of (element_fault y) beyond [] page (drop 1 es))
  unfolding first_of element_fault
  behind_tag [] = first_of_scan (element_fault y) beyond [] refl page []
  behind_tag (e ∷ es) = first_of_scan (element_fault y) beyond [] refl page es

  pub page_scan : Scan (λ i. found_in (suc i)) (page_fault y page s)
  unfolding page_fault element_of
  page_scan = behind_tag (elements y s)
