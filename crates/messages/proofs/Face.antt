-- The message that a search finds, and those from its end on: what the crates above cite of it.
use Rattle.std.specs.Prelude.{None}
use Rattle.messages.specs.Calls.{some_message}
use Rattle.std.specs.Prelude.{None}
use Rattle.messages.proofs.Sames.{start-same, end-same}
use Prim.Native.Nat.{ℕ, ◌≤◌, ◌<◌}
use mathlib.Core.Path.{◌≡◌, refl, sym, subst, subst₂}
use mathlib.Core.Bool.{Bool, true, false, cond}
use mathlib.Core.List.{List, [], ◌∷◌}
use native.Mathlib.Omega.{arith}
use lib.ListN.{length}
use lib.Dec.{eqb, leb}
use borrow.Author.Tests.{eq-eqb, ne_eqb, le-leb, lt-leb, leb-true, leb-false, eqb-true}
use Rattle.cut.specs.declared.service.Syntax.{Syntax}
use Rattle.messages.specs.declared.tags.Tag.TheVariants.{Unh}
use Rattle.bytewise.specs.Bytes.{part}
use Rattle.cut.specs.Segments.{segments_of, segments_at}
use Rattle.messages.specs.Messages.{Message, start_of, close_of, tag_of, messages}
use Rattle.messages.specs.Held.{held}
use Rattle.cut.specs.Calls.{begins_segment}
use Rattle.messages.specs.Calls.{as_found, found_at, message_at, found_from, next_message}
use Rattle.messages.proofs.Ordering.{InOrder}
use Rattle.messages.proofs.Members.{Each, Lies, messages_lie, messages_in_order}
use Rattle.messages.proofs.Finding.{at-nowhere}

abbrev pub keep_message : Bool → Message → List Message → List Message
keep_message true m ms = m ∷ ms
keep_message false m ms = ms

-- those that begin at q or later
unfoldable pub messages_from : ℕ → List Message → List Message
messages_from q [] = []
messages_from q (m ∷ ms) = keep_message (leb q (start_of m)) m (messages_from q ms)

from_all : (q p : ℕ) (ms : List Message) → q ≤ p → InOrder p ms → messages_from q ms ≡ ms
unfolding messages_from InOrder
from_all q p [] h k = refl
from_all q p (m ∷ ms) h k =
    let l : q ≤ start_of m = omega (arith, k.0) in
    rw (le-leb _ _ l, from_all q (close_of m) ms (omega (arith, k.1)) k.2)

-- what the next message from a place on is, in a list of messages
record Picked (P : Message → Type 0) (ms : List Message) (from s e : ℕ) : Type 0 where
  message : Message
  holds : P message
  starts : start_of message ≡ s
  closes : close_of message ≡ e
  later : from ≤ s
  some : s < e
  next : messages_from from ms ≡ message ∷ messages_from e ms
  here : found_at s ms ≡ some_message s e

Picked-first
    : (P : Message → Type 0) (m : Message) (ms : List Message) (from q s e : ℕ) → InOrder q (m ∷ ms) → P m → from ≤ start_of m → start_of m ≡ s → close_of m ≡ e
    → Picked P (m ∷ ms) from s e
unfolding messages_from found_at InOrder
Picked-first P m ms from q s e k p h a b =
    let n : start_of m < e = omega (arith, k.1) in
    let all = from_all from (close_of m) ms (omega (arith, k.1)) k.2 in
    let rest = from_all e (close_of m) ms (omega arith) k.2 in
    record {
      message = m;
      holds = p;
      starts = a;
      closes = b;
      later = omega arith;
      some = omega (arith, k.1);
      next = rw (le-leb _ _ h, all, lt-leb _ _ n, rest);
      here = rw (eq-eqb _ _ (sym a)) (cc);
    }

picked_later : (P : Message → Type 0) (m : Message) (ms : List Message) (from s e : ℕ) → start_of m < from → Picked P ms from s e → Picked P (m ∷ ms) from s e
unfolding messages_from found_at
picked_later P m ms from s e h k =
    let n : start_of m < e = omega (arith, k.later, k.some) in
    let d : s ≡ start_of m → ⊥ = λ i. omega (arith, k.later) in
    record {
      message = k.message;
      holds = k.holds;
      starts = k.starts;
      closes = k.closes;
      later = k.later;
      some = k.some;
      next = rw (lt-leb _ _ h, lt-leb _ _ n) k.next;
      here = rw (ne_eqb _ _ d) k.here;
    }

picked
    : (P : Message → Type 0) (q : ℕ) (ms : List Message) (from s e : ℕ) → InOrder q ms → Each P ms → found_from from ms ≡ some_message s e
    → Picked P ms from s e
unfolding found_from InOrder Each
picked P q [] from s e k p h = absurd (let z : ◌≡◌ {A = ℕ} 0 1 = cc in omega arith)
picked P q (m ∷ ms) from s e k p h = go (leb from (start_of m)) refl h (picked P (close_of m) ms from s e k.2 p.1)
  where
    go
        : (b : Bool) → leb from (start_of m) ≡ b → cond b (as_found m) (found_from from ms) ≡ some_message s e
        → (found_from from ms ≡ some_message s e → Picked P ms from s e) → Picked P (m ∷ ms) from s e
    go true l f ih = Picked-first P m ms from q s e k p.0 (leb-true _ _ l) (start-same _ _ _ _ f) (end-same _ _ _ _ f)
    go false l f ih = picked_later P m ms from s e (leb-false _ _ l) (ih f)

at-found
    : (q : ℕ) (ms : List Message) (at s e : ℕ) → InOrder q ms → found_at at ms ≡ some_message s e
    → (q ≤ at) × (s ≡ at) × (found_from at ms ≡ some_message s e)
unfolding found_at found_from InOrder
at-found q [] at s e k h = absurd (let z : ◌≡◌ {A = ℕ} 0 1 = cc in omega arith)
at-found q (m ∷ ms) at s e k h = go (eqb at (start_of m)) refl h (at-found (close_of m) ms at s e k.2)
  where
    go
        : (b : Bool) → eqb at (start_of m) ≡ b → cond b (as_found m) (found_at at ms) ≡ some_message s e
        → (found_at at ms ≡ some_message s e → (close_of m ≤ at) × (s ≡ at) × (found_from at ms ≡ some_message s e))
        → (q ≤ at) × (s ≡ at) × (found_from at (m ∷ ms) ≡ some_message s e)
    go true l f ih =
        let a = eqb-true at (start_of m) l in
        let b = start-same _ _ _ _ f in
        let n : at ≤ start_of m = omega arith in
        (omega (arith, k.0), omega arith, rw (le-leb _ _ n) f)
    go false l f ih =
        let i = ih f in
        let n : start_of m < at = omega (arith, k.1, i.0) in
        (omega (arith, k.0, k.1, i.0), i.1, rw (lt-leb _ _ n) i.2)

-- the next message from a place on begins at `s` and ends at `e`
pub record Next (y : Syntax) (d : List ℕ) (from s e : ℕ) : Type 0 where
  pub message : Message
  pub starts : start_of message ≡ s
  pub closes : close_of message ≡ e
  pub later : from ≤ s
  pub some : s < e
  pub fits : e ≤ length d
  -- a segment begins where it begins, and begins UNH
  pub begins : begins_segment y d s ≡ true
  pub begins_UNH : tag_of message.first.bytes ≡ Unh
  -- it is the message at its own place
  pub here : message_at y d s ≡ some_message s e
  -- its bytes alone hold its segments
  pub alone : segments_of y s (part s e d) ≡ message.first ∷ message.rest
  -- its segments are those that the message takes from its place on
  pub takes : held (segments_at y d s) ≡ message.first ∷ message.rest
  -- the search from its end skips nothing
  pub next : messages_from from (messages y d) ≡ message ∷ messages_from e (messages y d)

module _ (y : Syntax) (d : List ℕ) where
  begins-here : (s e : ℕ) → message_at y d s ≡ some_message s e → begins_segment y d s ≡ true
  begins-here s e h = go (begins_segment y d s) refl
    where
      go : (b : Bool) → begins_segment y d s ≡ b → begins_segment y d s ≡ true
      go true k = k
      go false k =
          let n = at-nowhere y d s k in
          absurd (let z : ◌≡◌ {A = ℕ} 0 1 = cc in omega arith)

  pub next-message : (from s e : ℕ) → next_message y d from ≡ some_message s e → Next y d from s e
  unfolding next_message message_at
  next-message from s e h =
      let k = picked (Lies y d) 0 (messages y d) from s e (messages_in_order y d) (messages_lie y d) h in
      let l = k.holds in
      record {
        message = k.message;
        starts = k.starts;
        closes = k.closes;
        later = k.later;
        some = k.some;
        fits = omega (arith, l.fits, k.closes);
        begins = begins-here s e k.here;
        begins_UNH = l.begins_UNH;
        here = k.here;
        alone = subst₂ (λ (a b : ℕ). segments_of y a (part a b d) ≡ k.message.first ∷ k.message.rest) k.starts k.closes l.alone;
        takes = subst (λ (a : ℕ). held (segments_at y d a) ≡ k.message.first ∷ k.message.rest) k.starts l.takes;
        next = k.next;
      }

  none_from : (from : ℕ) (ms : List Message) → found_from from ms ≡ None → messages_from from ms ≡ []
  unfolding found_from messages_from
  none_from from [] h = refl
  none_from from (m ∷ ms) h = go (leb from (start_of m)) h (none_from from ms)
    where
      go
          : (b : Bool) → cond b (as_found m) (found_from from ms) ≡ None → (found_from from ms ≡ None → messages_from from ms ≡ [])
          → keep_message b m (messages_from from ms) ≡ []
      go true f ih = absurd (let z : ◌≡◌ {A = ℕ} 0 1 = cc in omega arith)
      go false f ih = ih f

  -- where there is no next message, none is left
  pub next-nothing : (from : ℕ) → next_message y d from ≡ None → messages_from from (messages y d) ≡ []
  unfolding next_message
  next-nothing from h = none_from from (messages y d) h

  -- the message at a place begins there, and is the next one from there on
  pub message-at : (at s e : ℕ) → message_at y d at ≡ some_message s e → (s ≡ at) × (next_message y d at ≡ some_message s e)
  unfolding message_at next_message
  message-at at s e h =
      let k = at-found 0 (messages y d) at s e (messages_in_order y d) h in
      (k.1, k.2)
