-- Walks by computation: UNA, a released terminator, a terminator alone and a piece; a delivery whose UNA has other characters, and one that may not be
-- read; and line breaks in both readings.
use Prim.Native.Nat.{ℕ}
use mathlib.Core.Bool.{true, false}
use mathlib.Core.Path.{◌≡◌, refl}
use mathlib.Core.List.{List, [], ◌∷◌, ◌++◌}
use denote.Bor.{Bor}
use Rattle.std.specs.Prelude.{None}
use Rattle.bytewise.specs.Bytes.{bytes_of, begins}
use Rattle.cut.specs.Base.{edifact, strictly}
use Rattle.cut.specs.Segments.{ends, frees, join, segments_from, is_break, trim, trimmed, segments_of, past}
use Rattle.cut.specs.Admission.{admits, opens, admission_of, opening_of}
use Rattle.cut.specs.Characters.{between, allowed_byte, may_serve, has, all_serve, distinct, valid}
use Rattle.cut.specs.Used.{named, characters_of}
use Rattle.cut.specs.Calls.{some_cut, head_cut, segment_at, step_of}
use Rattle.held.specs.Reading.{next_from, place_after, reader_on, answer_of, moved_on, answers}

-- the bytes in a slice at any address
abbrev lent : ℕ × ℕ → List ℕ → Bor (List ℕ)
lent p d = record { ref_ptr = p; now = d }

module _ (p : ℕ × ℕ) where
  una_released_piece
      : answers 5 (reader_on edifact (lent p (bytes_of "UNA:+.? 'A?'B''UNH")))
      ≡ some_cut 9 14 false ∷ some_cut 14 15 false ∷ some_cut 15 18 true ∷ None ∷ None ∷ []
  unfolding
      answers answer_of moved_on next_from place_after step_of head_cut segment_at between allowed_byte may_serve has all_serve
      distinct valid admits opens admission_of opening_of characters_of named segments_from join ends frees is_break trim trimmed
      segments_of past begins
  una_released_piece = refl

  -- other characters of UNA: the terminator is `~`, the release character `!`
  other_characters
      : answers 3 (reader_on edifact (lent p (bytes_of "UNA|^,! ~A!~'~B?~"))) ≡ some_cut 9 14 false ∷ some_cut 14 17 false ∷ None ∷ []
  unfolding
      answers answer_of moved_on next_from place_after step_of head_cut segment_at between allowed_byte may_serve has all_serve
      distinct valid admits opens admission_of opening_of characters_of named segments_from join ends frees is_break trim trimmed
      segments_of past begins
  other_characters = refl

  -- two of UNA's characters are equal
  not-admitted : answers 2 (reader_on edifact (lent p (bytes_of "UNA:+:? 'A'"))) ≡ None ∷ None ∷ []
  unfolding
      answers answer_of moved_on next_from place_after step_of head_cut segment_at between allowed_byte may_serve has all_serve
      distinct valid admits opens admission_of opening_of characters_of named segments_from join ends frees is_break trim trimmed
      segments_of past begins
  not-admitted = refl

  -- skipped before UNA, behind it, between segments and at the end
  usual_breaks
      : answers 3 (reader_on edifact (lent p ((10 ∷ bytes_of "UNA:+.? '") ++ (13 ∷ 10 ∷ bytes_of "A'") ++ (13 ∷ 10 ∷ bytes_of "B'") ++ (10 ∷ []))))
      ≡ some_cut 12 14 false ∷ some_cut 16 18 false ∷ None ∷ []
  unfolding
      answers answer_of moved_on next_from place_after step_of head_cut segment_at between allowed_byte may_serve has all_serve
      distinct valid admits opens admission_of opening_of characters_of named segments_from join ends frees is_break trim trimmed
      segments_of past begins
  usual_breaks = refl

  -- strictly it belongs to the segment behind it
  strict_break
      : answers 3 (reader_on (strictly edifact) (lent p (bytes_of "A'" ++ (13 ∷ 10 ∷ bytes_of "B'"))))
      ≡ some_cut 0 2 false ∷ some_cut 2 6 false ∷ None ∷ []
  unfolding
      answers answer_of moved_on next_from place_after step_of head_cut segment_at between allowed_byte may_serve has all_serve
      distinct valid admits opens admission_of opening_of characters_of named segments_from join ends frees is_break trim trimmed
      segments_of past begins
  strict_break = refl
