-- What a page asks of a segment: refusals 18, 17, 19 and 20 of document 01, each as a statement about one component. Elements count from 0,
-- the tag, and components from 0.
use Rattle.std.specs.Prelude.{ℕ, ◌≤◌, true, false, ◌≡◌}
use mathlib.Core.List.{List, [], Memᴰ}
use Rattle.cut.specs.declared.service.Syntax.{Syntax}
use Rattle.element.specs.Elements.{component}
use Rattle.plain.specs.Plain.{plain}
use Rattle.value.specs.Format.{fits_format}
use Rattle.value.specs.declared.formats.Format.{Format}
use Rattle.guide.specs.Page.{Status, must, used, unused, Page, element_of, row_of}

-- the bytes of component c of element e, "releases removed"; "a missing component equals an empty one"
unfoldable pub text : Syntax → List ℕ → ℕ → ℕ → List ℕ
text y s e c = plain y false (component y s e c)

-- "Empty means zero bytes after releases are removed"
abbrev pub Empty : Syntax → List ℕ → ℕ → ℕ → Type 0
Empty y s e c = text y s e c ≡ []

abbrev pub Filled : Syntax → List ℕ → ℕ → ℕ → Type 0
Filled y s e c = Empty y s e c → ⊥

module _ (y : Syntax) (page : Page) (s : List ℕ) where
  -- "a composite that is itself M or R, or that has any non-empty component", wherever that stands in it
  pub data Asked (e : ℕ) : Type 0 where
    by_status : (element_of page e).required ≡ true → Asked e
    by_content : (c : ℕ) → Filled y s e c → Asked e

  -- 18, "component not used": "N and all beyond the last row must be empty"
  pub record NotUsed (e c : ℕ) : Type 0 where
    pub row : row_of page e c ≡ unused
    pub filled : Filled y s e c

  -- 17, "missing": "Status M and R: must be non-empty" in such a composite
  pub record Missing (e c : ℕ) : Type 0 where
    pub format : Format
    pub codes : List (List ℕ)
    pub row : row_of page e c ≡ used must format codes
    pub asked : Asked e
    pub empty : Empty y s e c

  -- 19, "wrong format"
  pub record WrongFormat (e c : ℕ) : Type 0 where
    pub status : Status
    pub format : Format
    pub codes : List (List ℕ)
    pub row : row_of page e c ≡ used status format codes
    pub filled : Filled y s e c
    pub outside : fits_format y format (text y s e c) ≡ false

  -- 20, "code not on its page": in its format, on a row that has codes, and none of them
  pub record WrongCode (e c : ℕ) : Type 0 where
    pub status : Status
    pub format : Format
    pub codes : List (List ℕ)
    pub row : row_of page e c ≡ used status format codes
    pub filled : Filled y s e c
    pub inside : fits_format y format (text y s e c) ≡ true
    pub coded : codes ≡ [] → ⊥
    pub other : Memᴰ (text y s e c) codes → ⊥

  -- a component as its page wants it
  pub record Sound (e c : ℕ) : Type 0 where
    pub in_use : NotUsed e c → ⊥
    pub present : Missing e c → ⊥
    pub formed : WrongFormat e c → ⊥
    pub listed : WrongCode e c → ⊥

  -- a segment as its page wants it: every component behind the tag, whether it stands or not
  unfoldable pub Holds : Type 0
  Holds = (e c : ℕ) → 1 ≤ e → Sound e c
