-- To the cursor at the beginning of a segment all of its components are left.
use Prim.Native.Nat.{ℕ, ◌≤◌, ◌<◌, min}
use mathlib.Core.Path.{◌≡◌, refl, sym, ◌∙◌}
use mathlib.Core.Bool.{false}
use mathlib.Core.List.{List, [], ◌∷◌}
use native.Mathlib.Decide.{dec_lt}
use native.Mathlib.Omega.{arith}
use borrow.Author.Tests.{lt-ltb, le-ltb}
use lib.ListN.{length}
use Rattle.bytewise.specs.Bytes.{part}
use Rattle.cut.specs.declared.service.Syntax.{Syntax}
use Rattle.bytewise.proofs.Parts.{part_none, length_part}
use Rattle.element.specs.Elements.{split_from, elements}
use Rattle.element.specs.Components.{in_elements, components}
use Rattle.element.specs.Cursors.{rest_from, rest, opening}
use Rattle.element.specs.declared.cursor.Cursor.{Cursor}
use Rattle.bytewise.proofs.Limits.{limited}
use Rattle.element.proofs.cursor.Standing.{standing_of, rest-standing, rest-done}

pub components-some : (y : Syntax) (p : ℕ) (s : List ℕ) → 0 < length s → components y p s ≡ rest_from 0 0 p (split_from y false s)
unfolding components elements in_elements rest_from
components-some y p [] h = absurd (omega arith)
components-some y p (x ∷ xs) h = refl

components-none : (y : Syntax) (p : ℕ) (s : List ℕ) → s ≡ [] → components y p s ≡ []
unfolding components elements in_elements
components-none y p s h = rw h

module _ (y : Syntax) (d : List ℕ) (start end : ℕ) where
  opening-by : Dec (start < min end (length d)) → rest y d (opening d start end) ≡ components y start (part start end d)
  unfolding opening
  opening-by (yes h) =
      let l : min end (length d) ≤ length d = omega arith in
      let n : 0 < length (part start end d) = rw (← limited d start end (min end (length d)) refl, length_part d start (min end (length d)) l) (omega arith) in
      rw (lt-ltb _ _ h)
      (rest-standing y d _ (standing_of d _ (record { place = omega arith; element = omega arith; component = omega arith }))
      ∙ sym (components-some y start (part start end d) n))
  opening-by (no h) =
      let l : min end (length d) ≤ start = omega arith in
      rw (le-ltb _ _ l) (rest-done y d ∙ sym (components-none y start (part start end d) (sym (limited d start end _ refl) ∙ part_none d start _ l)))

  pub rest-opening : rest y d (opening d start end) ≡ components y start (part start end d)
  rest-opening = opening-by (dec_lt start (min end (length d)))

  -- in the words of what `Cursor::new` promises of its answer
  pub rest_new : (k : Cursor) → k ≡ opening d start end → rest y d k ≡ components y start (part start end d)
  rest_new k h = rw h rest-opening
