-- A walk: what the steps of a cursor give, one after the other.
use Prim.Native.Nat.{ℕ, zero, suc, ◌≤◌}
use mathlib.Core.Path.{◌≡◌, refl, sym, ap, ◌∙◌}
use mathlib.Core.List.{List, [], ◌∷◌}
use native.Mathlib.Omega.{arith}
use lib.ListN.{length}
use Rattle.bytewise.specs.Bytes.{part}
use Rattle.cut.specs.declared.service.Syntax.{Syntax}
use Rattle.element.specs.Components.{Component, components}
use Rattle.element.specs.Cursors.{rest, opening, step_of}
use Rattle.element.specs.declared.cursor.Cursor.{Cursor}
use Rattle.element.specs.declared.cursor.Visit.{Visit}
use Rattle.std.specs.Prelude.{Option, Some, None}
use Rattle.element.proofs.cursor.Visits.{visited, nothing_left}
use Rattle.element.proofs.cursor.Opening.{rest-opening}

-- what one step gives, its bytes read from the delivery at the places it gives, before what comes from the next cursor on
unfoldable pub given : List ℕ → Option Visit → (Cursor → List Component) → List Component
given d None f = []
given d (Some v) f = record { element = v.element; component = v.component; start = v.start; bytes = part v.start v.end d } ∷ f v.next

-- what at most n steps give
unfoldable pub walk : Syntax → List ℕ → ℕ → Cursor → List Component
walk y d zero k = []
walk y d (suc n) k = given d (step_of y d k) (walk y d n)

empty_list : (ks : List Component) → length ks ≤ 0 → [] ≡ ks
empty_list [] h = refl
empty_list (k ∷ ks) h = absurd (omega arith)

walk-by : (y : Syntax) (d : List ℕ) (n : ℕ) (k : Cursor) (v : Option Visit) → step_of y d k ≡ v → length (rest y d k) ≤ suc n
    → ((next : Cursor) → length (rest y d next) ≤ n → walk y d n next ≡ rest y d next) → given d v (walk y d n) ≡ rest y d k
unfolding given
walk-by y d n k None s h ih = sym (nothing_left y d k s)
walk-by y d n k (Some v) s h ih =
    let here = visited y d k v.element v.component v.start v.end v.next s in
    let l = ap length here.list in
    let r = ih v.next (omega arith) in
    rw (here.list, r)

pub walk-rest : (y : Syntax) (d : List ℕ) (n : ℕ) (k : Cursor) → length (rest y d k) ≤ n → walk y d n k ≡ rest y d k
unfolding walk
walk-rest y d zero k h = empty_list (rest y d k) h
walk-rest y d (suc n) k h = walk-by y d n k (step_of y d k) refl h (walk-rest y d n)

-- a walk with steps enough gives all components of the segment, in their order
pub walk-components
    : (y : Syntax) (d : List ℕ) (start end n : ℕ) → length (components y start (part start end d)) ≤ n
    → walk y d n (opening d start end) ≡ components y start (part start end d)
walk-components y d start end n h = walk-rest y d n (opening d start end) (rw (rest-opening y d start end) h) ∙ rest-opening y d start end
