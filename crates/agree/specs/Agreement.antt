-- Whether two positions agree. Document 01, 'Message rules': they agree "in LIN (without its number), PIA and IMD. All characters are compared,
-- releases removed; a missing component equals an empty one, a missing segment equals none".
use Rattle.std.specs.Prelude.{ℕ, ◌+◌, Bool, true, false, ◌&&◌, ◌||◌, List, [], ◌∷◌, map, get_or, drop, eqb}
use Rattle.cut.specs.declared.service.Syntax.{Syntax}
use Rattle.cut.specs.Segments.{Segment}
use Rattle.element.specs.Elements.{elements}
use Rattle.plain.specs.Plain.{plain, same}
use Rattle.guide.specs.Sheet.{Position}

-- "All characters are compared, releases removed"
unfoldable pub same_text : Syntax → List ℕ → List ℕ → Bool
same_text y b c = same (plain y false b) (plain y false c)

-- the components of an element are empty
unfoldable pub all_empty : Syntax → List (List ℕ) → Bool
all_empty y [] = true
all_empty y (c ∷ cs) = same_text y [] c && all_empty y cs

-- the components of two elements, one after the other: "a missing component equals an empty one"
unfoldable pub same_components : Syntax → List (List ℕ) → List (List ℕ) → Bool
same_components y [] cs = all_empty y cs
same_components y (b ∷ bs) cs = same_text y b (get_or cs 0 []) && same_components y bs (drop 1 cs)

-- the elements fs, of which the first has the number e, are empty, but for the element x
unfoldable pub empty_elements : Syntax → ℕ → ℕ → List (List (List ℕ)) → Bool
empty_elements y x e [] = true
empty_elements y x e (cs ∷ fs) = (eqb e x || all_empty y cs) && empty_elements y x (e + 1) fs

-- two rows of elements, of which the first have the number e, one after the other, but for the element x
unfoldable pub same_elements : Syntax → ℕ → ℕ → List (List (List ℕ)) → List (List (List ℕ)) → Bool
same_elements y x e [] fs = empty_elements y x e fs
same_elements y x e (bs ∷ es) fs = (eqb e x || same_components y bs (get_or fs 0 [])) && same_elements y x (e + 1) es (drop 1 fs)

-- the bytes of two segments agree in all their components, but for those of the element x
unfoldable pub agree_but : Syntax → ℕ → List ℕ → List ℕ → Bool
agree_but y x s t = same_elements y x 0 (elements y s) (elements y t)

-- "a missing segment equals none": both are missing, or both stand and agree; the tag is not compared
unfoldable pub agree_in : Syntax → List (List ℕ) → List (List ℕ) → Bool
agree_in y [] [] = true
agree_in y [] (t ∷ ts) = false
agree_in y (s ∷ ss) [] = false
agree_in y (s ∷ ss) (t ∷ ts) = agree_but y 0 s t && agree_in y ss ts

-- what is compared of a position: the bytes of its LIN, and of its PIA and its IMD if there are such
pub record Heading : Type 0 where
  pub lin : List ℕ
  pub pia : List (List ℕ)
  pub imd : List (List ℕ)

-- the bytes of some segments
abbrev pub bytes_in : List Segment → List (List ℕ)
bytes_in ss = map (λ (s : Segment). s.bytes) ss

-- the same of a position that is read off a message's tree
abbrev pub heading_of : Position → Heading
heading_of p = record { lin = p.lin.bytes; pia = bytes_in p.pia; imd = bytes_in p.imd }

-- two positions "agree in LIN (without its number), PIA and IMD": the number is LIN's element 1
unfoldable pub agree : Syntax → Heading → Heading → Bool
agree y p q = agree_but y 1 p.lin q.lin && (agree_in y p.pia q.pia && agree_in y p.imd q.imd)
