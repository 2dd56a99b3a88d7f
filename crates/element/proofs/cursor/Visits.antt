-- What a step of a cursor says of the components that are left to it.
use Prim.Native.Nat.{ℕ, ◌+◌, ◌≤◌, min}
use mathlib.Core.Path.{◌≡◌, refl, sym, ap, ◌∙◌}
use mathlib.Core.Bool.{Bool, true, false}
use mathlib.Core.List.{List, [], ◌∷◌}
use native.Mathlib.Omega.{arith}
use lib.ListN.{length, drop}
use Rattle.bytewise.specs.Bytes.{part}
use Rattle.cut.specs.declared.service.Syntax.{Syntax}
use Rattle.element.specs.Elements.{component}
use Rattle.element.specs.Cursors.{standing, rest, cursor_at, visit_at, step_of, Stopped}
use Rattle.element.specs.declared.cursor.Cursor.{Cursor}
use Rattle.element.specs.declared.cursor.Visit.{Visit}
use Rattle.std.specs.Prelude.{Some, None}
use Rattle.element.proofs.cursor.Standing.{step_none}
use Rattle.element.proofs.cursor.Onward.{stopped_at, here, Onward, onward-next, onward-ending, step-at}

-- a step of the cursor k gave component c of element e, from the place a up to the place b, and the cursor next
pub record Visited (y : Syntax) (d : List ℕ) (k : Cursor) (e c a b : ℕ) (next : Cursor) : Type 0 where
  pub list : rest y d k ≡ record { element = e; component = c; start = a; bytes = part a b d } ∷ rest y d next
  pub ordered : a ≤ b
  pub within : b ≤ min k.end (length d)

module _ (y : Syntax) (d : List ℕ) (k : Cursor) where
  -- where the segment and the component end that the cursor stands in
  abbrev limit : ℕ
  limit = min k.end (length d)

  abbrev stop : ℕ
  stop = k.place + length (component y (part k.place limit d) 0 0)

  abbrev next : Cursor
  next = cursor_at k.end (drop 1 (rest y d k))

  stopped : standing d k ≡ true → Stopped y d k stop limit
  stopped h = record { stands = h; within = refl; stops = refl }

  list_of : (n : Cursor) → Onward y d k stop n → rest y d k ≡ here d k stop ∷ rest y d next
  list_of n o = o.list ∙ ap (λ (m : Cursor). here d k stop ∷ rest y d m) (sym (onward-next y d k stop n o))

  visited_by : (b : Bool) → standing d k ≡ b → (e c from to : ℕ) (n : Cursor) → step_of y d k ≡ Some (visit_at e c from to n) → Visited y d k e c from to n
  visited_by true h e c from to n s =
      let q = stopped h in
      let m = (stopped_at y d k stop limit q).within in
      let w = sym (step-at y d k stop limit q next refl) ∙ s in
      let v : visit_at k.element k.component k.place stop next ≡ visit_at e c from to n = cc in
      let pe = ap (λ (u : Visit). u.element) v in
      let pc = ap (λ (u : Visit). u.component) v in
      let pf = ap (λ (u : Visit). u.start) v in
      let pt = ap (λ (u : Visit). u.end) v in
      let pn = ap (λ (u : Visit). u.next) v in
      record {
        list =
            list_of _ (onward-ending y d k stop limit q)
            ∙ (λ i. record { element = pe i; component = pc i; start = pf i; bytes = part (pf i) (pt i) d } ∷ rest y d (pn i));
        ordered = omega arith;
        within = omega arith;
      }
  visited_by false h e c from to n s =
      let w = sym (step_none y d k h) ∙ s in
      let z : ◌≡◌ {A = ℕ} 0 1 = cc in
      absurd (omega arith)

  none-by : (b : Bool) → standing d k ≡ b → step_of y d k ≡ None → rest y d k ≡ []
  unfolding rest
  none-by true h s =
      let w = sym (step-at y d k stop limit (stopped h) next refl) ∙ s in
      let z : ◌≡◌ {A = ℕ} 0 1 = cc in
      absurd (omega arith)
  none-by false h s = rw h

  pub visited : (e c from to : ℕ) (n : Cursor) → step_of y d k ≡ Some (visit_at e c from to n) → Visited y d k e c from to n
  visited e c from to n s = visited_by (standing d k) refl e c from to n s

  pub nothing_left : step_of y d k ≡ None → rest y d k ≡ []
  nothing_left s = none-by (standing d k) refl s
