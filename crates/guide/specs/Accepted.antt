-- An accepted message, by the guide that it names. Demand 2: "its segments can be given guide nodes so that order, status, limits and contents of the
-- PRICAT 2.0d guide hold, with the message rules of document 01". It cites the tree, the pages and the layers below, and nothing that places, runs or
-- judges.
use Rattle.std.specs.Prelude.{ℕ, suc, ◌≡◌, true, false, List, [], ◌∷◌, length}
use Rattle.cut.specs.declared.service.Syntax.{Syntax}
use Rattle.bytewise.specs.Bytes.{bytes_of}
use Rattle.cut.specs.Segments.{Segment}
use Rattle.messages.specs.Messages.{Message}
use Rattle.clean.specs.Clean.{allowed_bytes, tagged_bytes}
use Rattle.value.specs.Digits.{count_of}
use Rattle.std.specs.Prelude.{Some}
use Rattle.guide.specs.Nodes.{View, Guide}
use Rattle.guide.specs.Views.{view_of}
use Rattle.guide.specs.Page.{Page}
use Rattle.guide.specs.Content.{text, Holds}
use Rattle.guide.specs.Tree.{assigned, Whole}
use Rattle.guide.specs.Sheet.{with_tag, Position, positions_in}

-- P holds of each
unfoldable pub Each : {A : Type 0} → (A → Type 0) → List A → Type 0
Each P [] = Unit {0}
Each P (x ∷ xs) = P x × Each P xs

-- "Every segment is free of 10, 11 and 12"
pub record Clean (y : Syntax) (s : Segment) : Type 0 where
  pub terminated : s.piece ≡ false
  pub allowed : allowed_bytes s.bytes ≡ true
  pub tagged : tagged_bytes y s.bytes ≡ true

-- how the guide sees a segment
abbrev pub seen : Syntax → Segment → View
seen y s = view_of y s.bytes

-- the segments of a message, and the last of them, which is its UNT if it is whole
abbrev pub segments_of : Message → List Segment
segments_of m = m.first ∷ m.rest

unfoldable pub last_of : Segment → List Segment → Segment
last_of s [] = s
last_of s (t ∷ ts) = last_of t ts

-- two segments agree in all their components, but for those of the element x
abbrev pub AgreeBut : Syntax → ℕ → Segment → Segment → Type 0
AgreeBut y x s t = (e c : ℕ) → (e ≡ x → ⊥) → text y s.bytes e c ≡ text y t.bytes e c

-- "a missing segment equals none": both are missing, or both stand and agree behind their tags
unfoldable pub AgreeIn : Syntax → List Segment → List Segment → Type 0
AgreeIn y [] [] = Unit {0}
AgreeIn y [] (t ∷ ts) = ⊥
AgreeIn y (s ∷ ss) [] = ⊥
AgreeIn y (s ∷ ss) (t ∷ ts) = AgreeBut y 0 s t × AgreeIn y ss ts

module _ (y : Syntax) where
  -- two positions "agree in LIN (without its number), PIA and IMD"
  pub record Agree (p q : Position) : Type 0 where
    pub lin : AgreeBut y 1 p.lin q.lin
    pub pia : AgreeIn y p.pia q.pia
    pub imd : AgreeIn y p.imd q.imd

  -- "no two positions agree"
  unfoldable pub Distinct : List Position → Type 0
  Distinct [] = Unit {0}
  Distinct (p ∷ ps) = Each (λ q. Agree p q → ⊥) ps × Distinct ps

  -- "LIN numbers run 1, 2, 3 over the whole message": from n on
  unfoldable pub Numbered : ℕ → List Segment → Type 0
  Numbered n [] = Unit {0}
  Numbered n (s ∷ ss) = (count_of (text y s.bytes 1 0) ≡ Some n) × Numbered (suc n) ss

  -- "Where BGM 1001 is not Z04"
  abbrev pub Compared : List Segment → Type 0
  Compared bgms = Each (λ s. text y s.bytes 1 0 ≡ bytes_of "Z04" → ⊥) bgms

  -- a message that the guide g with these pages lets stand, agreeing positions aside: "23 comes only when all else holds"
  pub record Proper (g : Guide) (pages : ℕ → Page) (m : Message) : Type 0 where
    pub sheet : Whole g (seen y) (segments_of m)
    pub clean : Each (Clean y) (segments_of m)
    pub holds : Each (λ x. Holds y (pages x.node) x.segment.bytes) (assigned sheet.tree)
    -- "UNT element 1 is the count of segments, UNH and UNT included"
    pub counted : count_of (text y (last_of m.first m.rest).bytes 1 0) ≡ Some (length (segments_of m))
    -- "element 2 equals the reference in UNH, releases removed"
    pub referred : text y (last_of m.first m.rest).bytes 2 0 ≡ text y m.first.bytes 1 0
    pub numbered : Numbered 1 (with_tag g (bytes_of "LIN") (assigned sheet.tree))

  -- an accepted message
  pub record Accepted (g : Guide) (pages : ℕ → Page) (m : Message) : Type 0 where
    pub proper : Proper g pages m
    pub distinct :
        Compared (with_tag g (bytes_of "BGM") (assigned proper.sheet.tree)) → Distinct (positions_in g proper.sheet.tree)
