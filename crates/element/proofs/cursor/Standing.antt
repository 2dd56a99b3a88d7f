-- A cursor that stands in a segment, and one that does not.
use Prim.Native.Nat.{ℕ, ◌≤◌, ◌<◌, min}
use mathlib.Core.Path.{◌≡◌}
use mathlib.Core.Bool.{true, false, and-false}
use mathlib.Core.List.{List, []}
use native.Mathlib.Omega.{arith}
use borrow.Author.Tests.{leb-true, le-leb, lt-leb}
use lib.ListN.{length}
use lib.Dec.{leb}
use Rattle.bytewise.proofs.Booleans.{and_both}
use Rattle.bytewise.specs.Bytes.{part}
use Rattle.cut.specs.declared.service.Syntax.{Syntax}
use Rattle.element.specs.Elements.{split_from}
use Rattle.element.specs.Components.{in_element}
use Rattle.element.specs.Cursors.{rest_from, standing, rest, done, cursor_at, visit_of, step_of}
use Rattle.element.specs.declared.cursor.Cursor.{Cursor}
use Rattle.std.specs.Prelude.{None}

-- the tests of `standing` as orders
pub record Stands (d : List ℕ) (k : Cursor) : Type 0 where
  pub place : k.place ≤ min k.end (length d)
  pub element : k.element ≤ k.place
  pub component : k.component ≤ k.place

pub stands : (d : List ℕ) (k : Cursor) → standing d k ≡ true → Stands d k
unfolding standing
stands d k h =
    let p = and_both _ _ h in
    let q = and_both _ _ p.1 in
    record { place = leb-true _ _ p.0; element = leb-true _ _ q.0; component = leb-true _ _ q.1 }

pub standing_of : (d : List ℕ) (k : Cursor) → Stands d k → standing d k ≡ true
unfolding standing
standing_of d k q = rw (le-leb _ _ q.place, le-leb _ _ q.element, le-leb _ _ q.component)

pub rest-standing
    : (y : Syntax) (d : List ℕ) (k : Cursor) → standing d k ≡ true
    → rest y d k ≡ rest_from k.element k.component k.place (split_from y false (part k.place k.end d))
unfolding rest
rest-standing y d k h = rw h

-- a cursor that stands is the one before what is left to it
pub cursor_rest : (y : Syntax) (d : List ℕ) (k : Cursor) → standing d k ≡ true → cursor_at k.end (rest y d k) ≡ k
unfolding cursor_at rest_from in_element
cursor_rest y d k h = rw (rest-standing y d k h)

-- a cursor that does not stand gives nothing
module _ (y : Syntax) (d : List ℕ) (k : Cursor) where
  pub step_none : standing d k ≡ false → step_of y d k ≡ None
  unfolding step_of rest visit_of
  step_none f = rw f

  pub past_end : (limit : ℕ) → limit ≡ min k.end (length d) → limit < k.place → step_of y d k ≡ None
  unfolding standing
  past_end limit w h = step_none (rw (← w, lt-leb _ _ h))

  pub past-element : k.place < k.element → step_of y d k ≡ None
  unfolding standing
  past-element h = step_none (rw (lt-leb k.element k.place h) (and-false (leb k.place (min k.end (length d)))))

  pub past-component : k.place < k.component → step_of y d k ≡ None
  unfolding standing
  past-component h =
      step_none (rw (lt-leb k.component k.place h, and-false (leb k.element k.place)) (and-false (leb k.place (min k.end (length d)))))

-- nothing is left to the cursor that is done
pub rest-done : (y : Syntax) (d : List ℕ) → rest y d done ≡ []
unfolding rest standing
rest-done y d =
    let f : leb 1 (min 0 (length d)) ≡ false = lt-leb 1 (min 0 (length d)) (omega arith) in
    rw f
