-- Segments. Document 01, 'Cutting', and item 4, for any service characters.
use Rattle.std.specs.Prelude.{ℕ, suc, ◌+◌, Bool, true, false, cond, not, ◌&&◌, ◌||◌, List, [], ◌∷◌, ◌++◌, length, drop, eqb}
use Rattle.cut.specs.declared.service.Syntax.{Syntax}

-- the place of its first byte, its bytes with the terminator, and whether it is an unterminated piece
pub record Segment : Type 0 where
  pub start : ℕ
  pub bytes : List ℕ
  pub piece : Bool

-- the place after its last byte
abbrev pub end_of : Segment → ℕ
end_of s = s.start + length s.bytes

-- "`'` ends a segment .. A released `'` ends nothing": whether the byte x ends one; r says that x is released
unfoldable pub ends : Syntax → Bool → ℕ → Bool
ends y true x = false
ends y false x = eqb x y.terminator

-- "`?` makes the next byte literal": whether the byte x releases the next one
unfoldable pub frees : Syntax → Bool → ℕ → Bool
frees y true x = false
frees y false x = not (eqb x y.terminator) && eqb x y.release

-- the byte x at place p before the segments that follow it: it ends one by itself, is a piece, or is the first byte of the next
unfoldable pub join : Bool → ℕ → ℕ → List Segment → List Segment
join true p x ss = record { start = p; bytes = x ∷ []; piece = false } ∷ ss
join false p x [] = record { start = p; bytes = x ∷ []; piece = true } ∷ []
join false p x (s ∷ ss) = record { start = p; bytes = x ∷ s.bytes; piece = s.piece } ∷ ss

-- what the terminators cut the bytes xs into, which stand from place p on; r says that the first of them is released
unfoldable pub segments_from : Syntax → ℕ → Bool → List ℕ → List Segment
segments_from y p r [] = []
segments_from y p r (x ∷ xs) = join (ends y r x) p x (segments_from y (suc p) (frees y r x) xs)

-- "CR and LF" (13 and 10), where the reading skips them; the byte that ends a segment or releases the next one is none
unfoldable pub is_break : Syntax → ℕ → Bool
is_break y x = (y.skips && (eqb x 13 || eqb x 10)) && not (eqb x y.terminator || eqb x y.release)

-- what stands from place p on, without the line breaks that it begins with, before others; b says whether it is a piece; it may have no other byte
unfoldable pub trim : Syntax → ℕ → List ℕ → Bool → List Segment → List Segment
trim y p [] b ss = ss
trim y p (x ∷ xs) b ss = cond (is_break y x) (trim y (suc p) xs b ss) (record { start = p; bytes = x ∷ xs; piece = b } ∷ ss)

-- the same of each: "directly after a segment's end, after UNA and at the start"
unfoldable pub trimmed : Syntax → List Segment → List Segment
trimmed y [] = []
trimmed y (s ∷ ss) = trim y s.start s.bytes s.piece (trimmed y ss)

-- the segments of the bytes xs, which stand from place p on; "Skipped bytes belong to no segment and no piece"
unfoldable pub segments_of : Syntax → ℕ → List ℕ → List Segment
segments_of y p xs = trimmed y (segments_from y p false xs)

-- the segments from a place on
abbrev pub segments_at : Syntax → List ℕ → ℕ → List Segment
segments_at y d at = segments_of y at (drop at d)

-- the place behind the line breaks at place p, where the bytes xs stand
unfoldable pub past : Syntax → ℕ → List ℕ → ℕ
past y p [] = p
past y p (x ∷ xs) = cond (is_break y x) (past y (suc p) xs) p

-- the place behind the line breaks at a place
abbrev pub past_at : Syntax → List ℕ → ℕ → ℕ
past_at y d at = past y at (drop at d)

-- whether all of them are line breaks
unfoldable pub breaks : Syntax → List ℕ → Bool
breaks y [] = true
breaks y (x ∷ xs) = is_break y x && breaks y xs

-- where the last of some segments ends; e, if there is none
unfoldable pub last_end : ℕ → List Segment → ℕ
last_end e [] = e
last_end e (s ∷ ss) = last_end (end_of s) ss

-- whether one of them begins at a place
unfoldable pub begins_in : ℕ → List Segment → Bool
begins_in at [] = false
begins_in at (s ∷ ss) = eqb at s.start || begins_in at ss

-- a segment before others, if it is to be kept
abbrev pub keep_if : Bool → Segment → List Segment → List Segment
keep_if true s ss = s ∷ ss
keep_if false s ss = ss

-- their bytes, one segment's after the other's
unfoldable pub joined : List Segment → List ℕ
joined [] = []
joined (s ∷ ss) = s.bytes ++ joined ss
