-- The component that a cursor stands before, and the cursor after it.
use Prim.Native.Nat.{ℕ, ◌+◌, ◌≤◌, ◌<◌}
use mathlib.Core.Path.{◌≡◌, refl, sym, ap, ◌∙◌}
use mathlib.Core.Bool.{false, true≢false}
use mathlib.Core.List.{List, ◌∷◌}
use native.Mathlib.Decide.{dec_le}
use native.Mathlib.Omega.{arith}
use lib.ListN.{length, get_or, drop}
use Rattle.bytewise.specs.Bytes.{part}
use Rattle.cut.specs.declared.service.Syntax.{Syntax}
use Rattle.element.specs.Elements.{ending_of, ending_at, stays, Split, before, split_from}
use Rattle.element.specs.declared.endings.Ending.{Ending}
use Rattle.element.specs.declared.endings.Ending.TheVariants as ends
use Rattle.std.specs.Prelude.{Option, Some, None, unwrap_or}
use Rattle.element.specs.Components.{Component, in_element}
use Rattle.element.specs.Cursors.{rest_from, rest, done, cursor_at, visit_at, visit_of, step_of, Stopped}
use Rattle.element.specs.declared.cursor.Cursor.{Cursor}
use Rattle.bytewise.proofs.Limits.{limited}
use Rattle.element.proofs.scan.Splits.{Last, Stop}
use Rattle.element.proofs.cursor.Standing.{stands, standing_of, rest-standing, cursor_rest, rest-done}
use Rattle.element.proofs.cursor.Steps.{first, rest-last, rest-element, rest-component}
use Rattle.element.proofs.scan.Endings.{at-end, at-byte}
use Rattle.element.proofs.scan.Stopping.{Ended, ended}

-- the component that the cursor k stands before, where it ends at the place stop
abbrev pub here : List ℕ → Cursor → ℕ → Component
here d k stop = record { element = k.element; component = k.component; start = k.place; bytes = part k.place stop d }

-- the cursor next comes after the component that ends at the place stop
pub record Onward (y : Syntax) (d : List ℕ) (k : Cursor) (stop : ℕ) (next : Cursor) : Type 0 where
  pub list : rest y d k ≡ here d k stop ∷ rest y d next
  pub back : cursor_at k.end (rest y d next) ≡ next

-- it is the cursor that the definition of a step gives
pub onward-next : (y : Syntax) (d : List ℕ) (k : Cursor) (stop : ℕ) (next : Cursor) → Onward y d k stop next → cursor_at k.end (drop 1 (rest y d k)) ≡ next
onward-next y d k stop next o = rw o.list o.back

-- the cursor after a component that ends at the place stop, by what ends there
unfoldable pub next_by : Ending → ℕ → Cursor → Cursor
next_by ends.Segment stop k = done
next_by ends.Element stop k = record { element = k.element + 1; component = 0; place = stop + 1; end = k.end }
next_by ends.Component stop k = record { element = k.element; component = k.component + 1; place = stop + 1; end = k.end }

module _ (y : Syntax) (d : List ℕ) (k : Cursor) (stop limit : ℕ) (q : Stopped y d k stop limit) where
  -- what stands from the cursor on, and after the byte that ends its component
  abbrev S : Split
  S = split_from y false (part k.place limit d)

  abbrev T : Split
  T = split_from y false (part (stop + 1) k.end d)

  pub stopped_at : Ended y d k.place limit stop
  stopped_at =
      let w = q.within in
      let s = stands d k q.stands in
      ended y d k.place limit stop (omega arith) (omega arith) q.stops

  first-here : first k.element k.component k.place S ≡ here d k stop
  first-here =
      ap (λ (l : List ℕ). record { element = k.element; component = k.component; start = k.place; bytes = l }) stopped_at.bytes

  rest-here : rest y d k ≡ rest_from k.element k.component k.place S
  rest-here = rw (rest-standing y d k q.stands, limited d k.place k.end limit q.within)

  onward-done : Last S → Onward y d k stop done
  unfolding cursor_at
  onward-done l =
      record { list = rest-here ∙ rest-last k.element k.component k.place S l ∙ rw (first-here, rest-done y d); back = rw (rest-done y d) }

  -- the numbers of the next component are not past its place
  onward-at
      : (e c : ℕ) → e ≤ stop + 1 → c ≤ stop + 1 → stop < limit
      → rest_from k.element k.component k.place S ≡ first k.element k.component k.place S ∷ rest_from e c (k.place + length S.bytes + 1) T
      → Onward y d k stop (record { element = e; component = c; place = stop + 1; end = k.end })
  onward-at e c he hc h l =
      let w = q.within in
      let s = standing_of d (record { element = e; component = c; place = stop + 1; end = k.end })
      (record { place = omega arith; element = he; component = hc }) in
      record { list = rest-here ∙ l ∙ rw (← stopped_at.ends, first-here, rest-standing y d _ s); back = cursor_rest y d _ s }

  stopped : stop < limit → Stop y S (get_or d stop 0) (part (stop + 1) k.end d)
  stopped h = rw (limited d (stop + 1) k.end limit q.within) at (stopped_at.more h)

  ends-here : stop < limit → stays (ending_of y false (get_or d stop 0)) ≡ false
  ends-here h = (stopped_at.more h).ends

  pub onward-none : limit ≤ stop → Onward y d k stop done
  onward-none h = onward-done (stopped_at.last h)

  onward-by : (g : Ending) → ending_of y false (get_or d stop 0) ≡ Some g → stop < limit → Onward y d k stop (next_by g stop k)
  unfolding next_by before
  onward-by ends.Segment e h =
      let s = stopped h in
      onward-done (record { components = rw e at s.components; elements = rw e at s.elements })
  onward-by ends.Element e h =
      let s = stopped h in
      let a = stopped_at.ends in
      let t = stands d k q.stands in
      onward-at (k.element + 1) 0 (omega arith) (omega arith) h
      (rest-element k.element k.component k.place S T (rw e at s.components) (rw e at s.elements))
  onward-by ends.Component e h =
      let s = stopped h in
      let a = stopped_at.ends in
      let t = stands d k q.stands in
      onward-at k.element (k.component + 1) (omega arith) (omega arith) h
      (rest-component k.element k.component k.place S T (rw e at s.components) (rw e at s.elements))

  -- by what ends where the component does
  pub onward-ending : Onward y d k stop (next_by (ending_at y d stop limit) stop k)
  unfolding next_by stays
  onward-ending = go (dec_le limit stop)
    where
      at : (g : Option Ending) → ending_of y false (get_or d stop 0) ≡ g → stop < limit → Onward y d k stop (next_by (unwrap_or g ends.Component) stop k)
      at (Some g) e h = onward-by g e h
      at None e h = absurd (true≢false (sym (ap stays e) ∙ ends-here h))

      go : Dec (limit ≤ stop) → Onward y d k stop (next_by (ending_at y d stop limit) stop k)
      go (yes h) = rw (at-end y d stop limit h) (onward-none h)
      go (no h) =
          let l : stop < limit = omega arith in
          let w = q.within in
          rw (at-byte y d stop limit l (omega arith)) (at _ refl l)

  pub after-ending : (g : Ending) → ending_at y d stop limit ≡ g → cursor_at k.end (drop 1 (rest y d k)) ≡ next_by g stop k
  after-ending g e = onward-next y d k stop _ (rw e at onward-ending)

  pub step-at
      : (next : Cursor) → next ≡ cursor_at k.end (drop 1 (rest y d k)) → step_of y d k ≡ Some (visit_at k.element k.component k.place stop next)
  unfolding step_of visit_of rest_from in_element
  step-at next n =
      let z = stopped_at.ends in
      rw (n, z, rest-here)
