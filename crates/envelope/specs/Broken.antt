-- What is wrong with an envelope, row by row in item 8's words. Declarative: nothing here says which row comes first, and none walks or judges.
use Rattle.std.specs.Prelude.{ℕ, ◌<◌, ◌≤◌, ◌≡◌, true, false, length, pos}
use mathlib.Core.List.{List, [], ◌∷◌, ◌++◌, Memᴰ}
use Rattle.bytewise.specs.Bytes.{begins}
use Rattle.cut.specs.declared.service.Syntax.{Syntax}
use Rattle.cut.specs.Segments.{Segment}
use Rattle.cut.specs.Admission.{limit, admission_of, segments}
use Rattle.messages.specs.Messages.{messages, outside}
use Rattle.value.specs.Text.{text_of}
use Rattle.envelope.specs.Required.{UNB, UNZ, Place, at, in_UNB, in_UNZ, text}

-- a segment is "a piece or does not begin" with a tag
pub data Not (tag : List ℕ) (s : Segment) : Type 0 where
  piece : s.piece ≡ true → Not tag s
  other_tag : begins tag s.bytes ≡ false → Not tag s

-- "a required element is missing" in a segment
pub record Lacks (y : Syntax) (s : Segment) (required : List Place) : Type 0 where
  pub element : Place
  pub is_required : Memᴰ element required
  pub missing : text y s element ≡ []

module _ (y : Syntax) (d : List ℕ) where
  -- f is "the first segment"
  pub record First (f : Segment) : Type 0 where
    pub rest : List Segment
    pub same : segments y d ≡ f ∷ rest

  -- l is "the last"
  pub record Last (l : Segment) : Type 0 where
    pub front : List Segment
    pub same : segments y d ≡ front ++ (l ∷ [])

  -- 50, "the first segment is none, a piece or does not begin `UNB`"; "the delivery's end if there is none"
  pub data NoUNB : ℕ → Type 0 where
    none_first : segments y d ≡ [] → NoUNB (length d)
    not_UNB : (f : Segment) → First f → Not UNB f → NoUNB f.start

  -- 51, "likewise the last and `UNZ`"
  pub data NoUNZ : ℕ → Type 0 where
    none_last : segments y d ≡ [] → NoUNZ (length d)
    not_UNZ : (l : Segment) → Last l → Not UNZ l → NoUNZ l.start

  -- 52, "DE0020 differs": element 5 of UNB, element 2 of UNZ
  pub record OtherReference (p : ℕ) : Type 0 where
    pub first : Segment
    pub last : Segment
    pub is_first : First first
    pub is_last : Last last
    pub differs : text y first (at 5 0) ≡ text y last (at 2 0) → ⊥
    pub place : p ≡ last.start

  -- 53, "DE0036 is not that count": it "counts the messages found", and "has no leading zeros"; element 1 of UNZ
  pub record OtherCount (p : ℕ) : Type 0 where
    pub last : Segment
    pub is_last : Last last
    pub differs : text y last (at 1 0) ≡ text_of (pos (length (messages y d))) → ⊥
    pub place : p ≡ last.start

  -- "another segment stands outside": neither the first nor the last
  pub record Stray (s : Segment) : Type 0 where
    pub is_outside : Memᴰ s (outside y d)
    pub not_first : First s → ⊥
    pub not_last : Last s → ⊥

  -- 54, at "the first such segment"
  pub record FirstStray (p : ℕ) : Type 0 where
    pub segment : Segment
    pub stray : Stray segment
    pub earliest : (s : Segment) → Stray s → segment.start ≤ s.start
    pub place : p ≡ segment.start

  -- 55, at "the first of the two that lacks one"
  pub data Missing : ℕ → Type 0 where
    of_UNB : (f : Segment) → First f → Lacks y f in_UNB → Missing f.start
    of_UNZ : (f l : Segment) → First f → (Lacks y f in_UNB → ⊥) → Last l → Lacks y l in_UNZ → Missing l.start

  -- number and place of what is wrong; 1 and 2 are those of the whole delivery
  pub data Broken : ℕ → ℕ → Type 0 where
    too_long : limit < length d → Broken 1 0
    unreadable : admission_of y d ≡ 2 → Broken 2 0
    no_UNB : {p : ℕ} → NoUNB p → Broken 50 p
    no_UNZ : {p : ℕ} → NoUNZ p → Broken 51 p
    other_reference : {p : ℕ} → OtherReference p → Broken 52 p
    other_count : {p : ℕ} → OtherCount p → Broken 53 p
    stray : {p : ℕ} → FirstStray p → Broken 54 p
    missing : {p : ℕ} → Missing p → Broken 55 p

  -- "the first in this order"
  pub record FirstBroken (n p : ℕ) : Type 0 where
    pub broken : Broken n p
    pub none_before : (m q : ℕ) → m < n → Broken m q → ⊥
