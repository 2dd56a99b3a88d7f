-- One round of the walk over two segments, in the words of what the workers promise.
use Prim.Native.Nat.{ℕ, ◌+◌, ◌<◌}
use mathlib.Core.Path.{◌≡◌, refl, sym, ap, ap₂, ◌∙◌}
use mathlib.Core.Bool.{Bool, true, false, cond, not, ◌&&◌, ◌||◌, true≢false, false≢true}
use mathlib.Core.List.{List, [], ◌∷◌}
use native.Mathlib.Omega.{arith}
use lib.ListN.{length}
use lib.Dec.{eqb}
use Rattle.std.specs.Prelude.{Option, Some, None, is_some}
use Rattle.cut.specs.declared.service.Syntax.{Syntax}
use Rattle.bytewise.specs.Bytes.{part}
use Rattle.element.specs.Components.{Component, components}
use Rattle.element.specs.Cursors.{rest, opening, step_of}
use Rattle.plain.specs.Plain.{plain, decoded, same}
use Rattle.element.specs.declared.components.Span.{Span}
use Rattle.element.specs.declared.cursor.Cursor.{Cursor}
use Rattle.element.specs.declared.cursor.Visit.{Visit}
use Rattle.element.proofs.ComponentFace.{decoded-none, rest_new, visited, nothing_left}
use Rattle.agree.specs.Agreement.{same_text, agree_but}
use Rattle.agree.specs.workers.Visits.{in_time, empty_span, shown_by, onward_by}
use Rattle.agree.proofs.agreement.Sides.{shown_of, alone, beside, side_by_side, one-comes, components_beside}

-- something is left on one side
abbrev pub more_left : Option Visit → Option Visit → Bool
more_left u v = is_some u || is_some v

module _ (y : Syntax) (d : List ℕ) where
  -- the components from a visit on
  abbrev component_of : Visit → Component
  component_of u = record { element = u.element; component = u.component; start = u.start; bytes = part u.start u.end d }

  unfoldable pub left_to : Option Visit → List Component
  left_to None = []
  left_to (Some u) = component_of u ∷ rest y d u.next

  pub left_step : (k : Cursor) (u : Option Visit) → u ≡ step_of y d k → left_to u ≡ rest y d k
  unfolding left_to
  left_step k None h = sym (nothing_left y d k (sym h))
  left_step k (Some u) h = sym (visited y d k u.element u.component u.start u.end u.next (sym h)).list

  pub left-first : (a e : ℕ) (k : Cursor) (u : Option Visit) → k ≡ opening d a e → u ≡ step_of y d k → left_to u ≡ components y a (part a e d)
  left-first a e k u h s = left_step k u s ∙ rest_new y d a e k h

  -- the bytes that a span shows
  abbrev pub text_at : Span → List ℕ
  text_at s = decoded y s.start s.end d

  text_shown : (p : Bool) (a b : ℕ) → text_at (cond p (record { start = a; end = b }) empty_span) ≡ plain y false (cond p (part a b d) [])
  unfolding decoded plain
  text_shown true a b = refl
  text_shown false a b = decoded-none y d 0 0 (omega arith)

  text-empty : text_at empty_span ≡ plain y false []
  text-empty = text_shown false 0 0

  left_after : (n : Cursor) → rest y d n ≡ left_to (step_of y d n)
  left_after n = sym (left_step n (step_of y d n) refl)

  abbrev onto : Option Visit → Option Visit → Option Visit
  onto u v = onward_by y d u v

  -- how much is left after a round
  abbrev pub left : Option Visit → Option Visit → ℕ
  left u v = length (left_to u) + length (left_to v)

  round_less : (u v : Option Visit) → more_left u v ≡ true → left (onto u v) (onto v u) < left u v
  unfolding onward_by left_to
  round_less None None h = absurd (false≢true h)
  round_less None (Some v) h = omega (arith, ap length (left_after v.next))
  round_less (Some u) None h = omega (arith, ap length (left_after u.next))
  round_less (Some u) (Some v) h =
      go (in_time u.element u.component v.element v.component) refl (in_time v.element v.component u.element u.component) refl
    where
      go
          : (p : Bool) → in_time u.element u.component v.element v.component ≡ p
          → (q : Bool) → in_time v.element v.component u.element u.component ≡ q
          → left (cond p (step_of y d u.next) (Some u)) (cond q (step_of y d v.next) (Some v)) < left (Some u) (Some v)
      go true s true t = omega (arith, ap length (left_after u.next), ap length (left_after v.next))
      go true s false t = omega (arith, ap length (left_after u.next))
      go false s true t = omega (arith, ap length (left_after v.next))
      go false s false t = absurd (true≢false (sym (one-comes u.element u.component v.element v.component s) ∙ t))

  pub walk_less : (u v u' v' : Option Visit) → more_left u v ≡ true → u' ≡ onward_by y d u v → v' ≡ onward_by y d v u → left u' v' < left u v
  walk_less u v u' v' more k l = rw (k, l) (round_less u v more)

  module _ (x : ℕ) where
    -- the walk from two visits on
    abbrev pub walked : Option Visit → Option Visit → Bool
    walked u v = side_by_side y x (left_to u) (left_to v)

    pub walk_ended : (u v : Option Visit) → more_left u v ≡ false → walked u v ≡ true
    unfolding side_by_side alone left_to
    walk_ended None None h = refl
    walk_ended None (Some v) h = absurd (true≢false h)
    walk_ended (Some u) v h = absurd (true≢false h)

    -- what is compared in a round, and what is left after it
    round
        : (u v : Option Visit) → more_left u v ≡ true
        → walked u v ≡ same (text_at (shown_by x u v)) (text_at (shown_by x v u)) && walked (onto u v) (onto v u)
    unfolding shown_by onward_by side_by_side alone beside left_to same_text shown_of
    round None None h = absurd (false≢true h)
    round None (Some v) h =
        ap₂ ◌&&◌ (sym (ap₂ same text-empty (text_shown (not (eqb v.element x) && true) v.start v.end)))
        (ap (λ (js : List Component). side_by_side y x [] js) (left_after v.next))
    round (Some u) None h =
        ap₂ ◌&&◌ (sym (ap₂ same (text_shown (not (eqb u.element x) && true) u.start u.end) text-empty))
        (ap (λ (ks : List Component). side_by_side y x ks []) (left_after u.next))
    round (Some u) (Some v) h =
        ap₂ ◌&&◌
        (sym (ap₂ same (text_shown (not (eqb u.element x) && in_time u.element u.component v.element v.component) u.start u.end)
        (text_shown (not (eqb v.element x) && in_time v.element v.component u.element u.component) v.start v.end)))
        (go (in_time u.element u.component v.element v.component) refl (in_time v.element v.component u.element u.component) refl)
      where
        k : Component
        k = component_of u

        j : Component
        j = component_of v

        go
            : (p : Bool) → in_time u.element u.component v.element v.component ≡ p
            → (q : Bool) → in_time v.element v.component u.element u.component ≡ q
            → cond p (cond q (side_by_side y x (rest y d u.next) (rest y d v.next)) (side_by_side y x (rest y d u.next) (j ∷ rest y d v.next)))
            (side_by_side y x (k ∷ rest y d u.next) (rest y d v.next))
            ≡ walked (cond p (step_of y d u.next) (Some u)) (cond q (step_of y d v.next) (Some v))
        go true s true t = ap₂ (side_by_side y x) (left_after u.next) (left_after v.next)
        go true s false t = ap (λ (ks : List Component). side_by_side y x ks (j ∷ rest y d v.next)) (left_after u.next)
        go false s true t = ap (λ (js : List Component). side_by_side y x (k ∷ rest y d u.next) js) (left_after v.next)
        go false s false t = absurd (true≢false (sym (one-comes u.element u.component v.element v.component s) ∙ t))

    -- the same in the words of what the workers answer
    module _ (u v : Option Visit) (more : more_left u v ≡ true) where
      pub walk-differs
          : (s t : Span) (r : Bool) → s ≡ shown_by x u v → t ≡ shown_by x v u → r ≡ same (text_at s) (text_at t) → r ≡ false → walked u v ≡ false
      walk-differs s t r a b h f =
          let q = sym (ap₂ (λ (i j : Span). same (text_at i) (text_at j)) a b) ∙ sym h ∙ f in
          round u v more ∙ rw q

      pub walk_on
          : (s t : Span) (r : Bool) (u' v' : Option Visit) → s ≡ shown_by x u v → t ≡ shown_by x v u → r ≡ same (text_at s) (text_at t) → r ≡ true
          → u' ≡ onward_by y d u v → v' ≡ onward_by y d v u → walked u v ≡ walked u' v'
      walk_on s t r u' v' a b h f k l =
          let q = sym (ap₂ (λ (i j : Span). same (text_at i) (text_at j)) a b) ∙ sym h ∙ f in
          round u v more ∙ rw (q, k, l)

    -- the walk from the first components of two segments
    pub walk_begins
        : (a e b f : ℕ) (first second : Cursor) (u v : Option Visit) → first ≡ opening d a e → second ≡ opening d b f → u ≡ step_of y d first → v
        ≡ step_of y d second
        → walked u v ≡ agree_but y x (part a e d) (part b f d)
    walk_begins a e b f first second u v h k s t =
        ap₂ (side_by_side y x) (left-first a e first u h s) (left-first b f second v k t) ∙ components_beside y x a b (part a e d) (part b f d)
