-- The messages of a delivery stand in order, so one of them is the only one that begins at its place.
use Prim.Native.Nat.{ℕ, ◌+◌, ◌≤◌, ◌<◌}
use mathlib.Core.Path.{◌≡◌, refl, sym, ◌∙◌, ap}
use mathlib.Core.List.Memᴰ
use mathlib.Core.List.{List, [], ◌∷◌, map, Memᴰ}
use mathlib.Core.Logic.{◌⊎◌, inl, inr}
use native.Mathlib.Omega.{arith}
use native.Mathlib.Nat.{add_assoc}
use lib.ListN.{length}
use borrow.Author.Tests.{eq-eqb, ne_eqb, le-leb, lt-leb}
use Rattle.cut.specs.declared.service.Syntax.{Syntax}
use Rattle.cut.specs.Segments.{Segment, end_of, last_end}
use Rattle.messages.specs.Messages.{Message, start_of, close_of, messages}
use Rattle.messages.specs.Calls.{as_found, found_from, next_message}
use Rattle.cut.specs.Fronts.{moved}
use Rattle.messages.specs.Fronts.{moved_message}
use Rattle.messages.proofs.Members.{Lies, messages_lie, messages_in_order}
use Rattle.messages.proofs.Ordering.{InOrder}
use Rattle.verdict.proofs.Face.{each_member}
use Rattle.schaumtruhe.specs.Calls.{beginning_at}

module _ (m : Message) where
  -- what stands in order after a place begins there or later
  member-later : (q : ℕ) (ms : List Message) → InOrder q ms → Memᴰ m ms → q ≤ start_of m
  unfolding InOrder
  member-later q [] k h = absurd (Memᴰ.not-nil h)
  member-later q (n ∷ ns) k h = go (Memᴰ.cases_cons h) (member-later (close_of n) ns k.2)
    where
      go : (m ≡ n) ⊎ Memᴰ m ns → (Memᴰ m ns → close_of n ≤ start_of m) → q ≤ start_of m
      go (inl e) ih =
          let z = ap start_of e in
          omega (arith, k.0)
      go (inr l) ih =
          let z = ih l in
          omega (arith, k.0, k.1)

  begins-once : (q : ℕ) (ms : List Message) → InOrder q ms → Memᴰ m ms → beginning_at (start_of m) ms ≡ m ∷ []
  unfolding InOrder beginning_at
  begins-once q [] k h = absurd (Memᴰ.not-nil h)
  begins-once q (n ∷ ns) k h = go (Memᴰ.cases_cons h) (begins-once (close_of n) ns k.2)
    where
      go : (m ≡ n) ⊎ Memᴰ m ns → (Memᴰ m ns → beginning_at (start_of m) ns ≡ m ∷ []) → beginning_at (start_of m) (n ∷ ns) ≡ m ∷ []
      go (inl e) ih = rw (eq-eqb (start_of m) (start_of n) (ap start_of e)) (ap (λ (x : Message). x ∷ []) (sym e))
      go (inr l) ih =
          let z = member-later (close_of n) ns k.2 l in
          rw (ne_eqb (start_of m) (start_of n) (λ (q : start_of m ≡ start_of n). omega (arith, k.1))) (ih l)

  next-once : (q : ℕ) (ms : List Message) → InOrder q ms → Memᴰ m ms → found_from (start_of m) ms ≡ as_found m
  unfolding InOrder found_from
  next-once q [] k h = absurd (Memᴰ.not-nil h)
  next-once q (n ∷ ns) k h = go (Memᴰ.cases_cons h) (next-once (close_of n) ns k.2)
    where
      go : (m ≡ n) ⊎ Memᴰ m ns → (Memᴰ m ns → found_from (start_of m) ns ≡ as_found m) → found_from (start_of m) (n ∷ ns) ≡ as_found m
      go (inl e) ih =
          let z = ap start_of e in
          let l : start_of m ≤ start_of n = omega arith in
          rw (le-leb (start_of m) (start_of n) l) (ap as_found (sym e))
      go (inr l) ih =
          let z = member-later (close_of n) ns k.2 l in
          let j : start_of n < start_of m = omega (arith, k.1) in
          rw (lt-leb (start_of m) (start_of n) j) (ih l)

-- where the last of some segments ends, k places later
last-moved : (k e : ℕ) (ss : List Segment) → last_end (k + e) (map (moved k) ss) ≡ k + last_end e ss
unfolding last_end
last-moved k e [] = refl
last-moved k e (s ∷ ss) =
    ap (λ (p : ℕ). last_end p (map (moved k) ss)) (add_assoc k s.start (length s.bytes)) ∙ last-moved k (end_of s) ss

pub close-moved : (k : ℕ) (m : Message) → close_of (moved_message k m) ≡ k + close_of m
close-moved k m = rw (add_assoc k (start_of m) (length m.first.bytes)) (last-moved k (end_of m.first) m.rest)

-- a message of a delivery
module _ (y : Syntax) (d : List ℕ) (m : Message) (here : Memᴰ m (messages y d)) where
  pub only_here : beginning_at (start_of m) (messages y d) ≡ m ∷ []
  only_here = begins-once m 0 (messages y d) (messages_in_order y d) here

  pub next_here : next_message y d (start_of m) ≡ as_found m
  unfolding next_message
  next_here = next-once m 0 (messages y d) (messages_in_order y d) here

  pub lies_here : Lies y d m
  lies_here = each_member (Lies y d) m (messages y d) (messages_lie y d) here
