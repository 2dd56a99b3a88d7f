-- What a refusal of a message says. Document 01, 'Refusal numbers': "In a message the first segment with a fault decides; within it 12, 10, 11,
-- 13, 15 or 16, 14, then components left to right (18, 17, 19, 20 at each), then 21 or 22", and request 2's 25 "after 15 and 16"; item 10: "16 ends".
use Rattle.std.specs.Prelude.{ℕ, suc, ◌≡◌, true, false, length, T}
use mathlib.Core.List.{List, [], ◌∷◌, ◌++◌, Memᴰ}
use Rattle.cut.specs.declared.service.Syntax.{Syntax}
use Rattle.bytewise.specs.Bytes.{bytes_of}
use Rattle.cut.specs.Segments.{Segment}
use Rattle.messages.specs.Messages.{Message, close_of}
use Rattle.clean.specs.Clean.{allowed_bytes, tagged_bytes}
use Rattle.value.specs.Digits.{count_of}
use Rattle.std.specs.Prelude.{Some}
use Rattle.guide.specs.Nodes.{Guide, number_of}
use Rattle.guide.specs.Page.{Page}
use Rattle.guide.specs.Content.{text, Holds}
use Rattle.guide.specs.FirstFault.{First}
use Rattle.guide.specs.Tree.{Kids, Given, giving, assigned, Beginning}
use Rattle.guide.specs.Answers.{placed, refused}
use Rattle.guide.specs.Meaning.{Outcome}
use Rattle.guide.specs.Sheet.{Position, is_tag, with_tag, positions_in}
use Rattle.guide.specs.Accepted.{Clean, seen, segments_of, last_of, Agree, Distinct, Compared, Proper}

-- "the reference in UNH", the first of a message's segments
abbrev pub reference_in : Syntax → List Segment → List ℕ
reference_in y [] = []
reference_in y (s ∷ ss) = text y s.bytes 1 0

module _ (y : Syntax) (g : Guide) (pages : ℕ → Page) where
  -- the segment s is clean, can come next as an instance of node n, and is as its page wants it
  pub record Fitting (before : List Segment) (s : Segment) (n : ℕ) : Type 0 where
    pub clean : Clean y s
    pub begins : Beginning g (seen y) before
    pub comes : Outcome g (seen y) begins.tree s (placed n)
    pub holds : Holds y (pages n) s.bytes

  -- the segment s, which comes after those before, has the fault with this number first, and the node of this row is named
  pub data FaultAfter (before : List Segment) (s : Segment) : ℕ → ℕ → Type 0 where
    -- 12, "the segment is an unterminated piece"
    piece : s.piece ≡ true → FaultAfter before s 12 0
    -- 10, "it holds a byte not allowed"
    byte : s.piece ≡ false → allowed_bytes s.bytes ≡ false → FaultAfter before s 10 0
    -- 11, "not three capital letters followed by `+` or `'`"
    tag : s.piece ≡ false → allowed_bytes s.bytes ≡ true → tagged_bytes y s.bytes ≡ false → FaultAfter before s 11 0
    -- 13; 15; 25, "at the second DTM of one code"; 14: over the tree of the segments before
    place :
        {k n : ℕ} → Clean y s → (b : Beginning g (seen y) before) → Outcome g (seen y) b.tree s (refused k n) → FaultAfter before s k n
    -- 18, 17, 19, 20: against the page of the node
    content :
        {k n : ℕ} → Clean y s → (b : Beginning g (seen y) before) → Outcome g (seen y) b.tree s (placed n) →
        First y (pages n) s.bytes k → FaultAfter before s k n
    -- 21, "UNT count or reference differs"
    count :
        {n : ℕ} → Fitting before s n → T (is_tag g (bytes_of "UNT") n) →
        (count_of (text y s.bytes 1 0) ≡ Some (suc (length before)) → text y s.bytes 2 0 ≡ reference_in y before → ⊥) →
        FaultAfter before s 21 n
    -- 22, "LIN number is not the next"
    line :
        {n : ℕ} → (f : Fitting before s n) → T (is_tag g (bytes_of "LIN") n) →
        (count_of (text y s.bytes 1 0) ≡ Some (suc (length (with_tag g (bytes_of "LIN") (assigned f.begins.tree)))) → ⊥) →
        FaultAfter before s 22 n

  -- none of the segments has a fault
  abbrev pub FaultFree : List Segment → Type 0
  FaultFree ss = (before : List Segment) (s : Segment) (after : List Segment) → ss ≡ before ++ (s ∷ after) → (k n : ℕ) → FaultAfter before s k n → ⊥

  -- the message is refused with number, segment, place and node
  pub data Refused (m : Message) : ℕ → ℕ → ℕ → ℕ → Type 0 where
    -- "the first segment with a fault decides"; the node is named by its number in the guide
    at_segment :
        {k n : ℕ} → (before : List Segment) (s : Segment) (after : List Segment) → segments_of m ≡ before ++ (s ∷ after) → FaultFree before →
        FaultAfter before s k n → Refused m k (suc (length before)) s.start (number_of g n)
    -- 24, "message ends without UNT", "names the segment number after the last and the byte after it"
    at_end :
        FaultFree (segments_of m) → ((seen y (last_of m.first m.rest)).tag ≡ bytes_of "UNT" → ⊥) →
        Refused m 24 (suc (length (segments_of m))) (close_of m) 0

module _ (y : Syntax) (g : Guide) where
  -- "the first LIN that agrees with an earlier one" is segment i, begins at the place a and is given the node of row n
  pub record Repeated (tree : Kids Segment) (i a n : ℕ) : Type 0 where
    -- no two of the positions before it agree, and one of them agrees with it
    pub before : List Position
    pub repeats : Position
    pub after : List Position
    pub positions : positions_in g tree ≡ before ++ (repeats ∷ after)
    pub distinct : Distinct y before
    pub earlier : Position
    pub among : Memᴰ earlier before
    pub agrees : Agree y earlier repeats
    -- among the message's segments its LIN is the one that has as many LINs in front of it as there are positions before it
    pub front : List (Given Segment)
    pub back : List (Given Segment)
    pub segments : assigned tree ≡ front ++ (giving n repeats.lin ∷ back)
    pub line : T (is_tag g (bytes_of "LIN") n)
    pub lines : length (with_tag g (bytes_of "LIN") front) ≡ length before
    pub number : i ≡ suc (length front)
    pub place : a ≡ repeats.lin.start

  -- "23 comes only when all else holds; it names the first LIN that agrees with an earlier one": segment i, at the place a, with the node of row n
  pub record Repeats (pages : ℕ → Page) (m : Message) (i a n : ℕ) : Type 0 where
    pub proper : Proper y g pages m
    pub compared : Compared y (with_tag g (bytes_of "BGM") (assigned proper.sheet.tree))
    pub repeated : Repeated proper.sheet.tree i a n

module _ (y : Syntax) (g : Guide) (pages : ℕ → Page) where
  -- the message is refused with number, segment, place and node: for a fault of a segment or of its end, or else, where "all else holds", for
  -- agreeing positions
  pub data Refusal (m : Message) : ℕ → ℕ → ℕ → ℕ → Type 0 where
    for_fault : {k i a n : ℕ} → Refused y g pages m k i a n → Refusal m k i a n
    -- the node is named by its number in the guide, as a fault's is
    for_agreement : {i a n : ℕ} → Repeats y g pages m i a n → Refusal m 23 i a (number_of g n)
