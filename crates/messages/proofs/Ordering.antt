-- Segments and messages stand one after the other: each begins where the one before ends, or later.
use Prim.Native.Nat.{ℕ, suc, ◌+◌, ◌≤◌, ◌<◌}
use mathlib.Core.Path.{◌≡◌, sym, subst}
use mathlib.Core.Bool.{Bool, true, false, cond}
use mathlib.Core.List.{List, [], ◌∷◌}
use native.Mathlib.Nat.{add-zero, le_refl}
use native.Mathlib.Omega.{arith}
use lib.ListN.{length}
use Rattle.cut.specs.declared.service.Syntax.{Syntax}
use Rattle.messages.specs.declared.tags.Tag.{Tag}
use Rattle.messages.specs.declared.tags.Tag.TheVariants.{Unh, Unt, Unz, Other}
use Rattle.cut.specs.Segments.{Segment, end_of, is_break, trim, trimmed, segments_of, last_end}
use Rattle.cut.proofs.Skips.{segments_are}
use Rattle.cut.proofs.Chains.{Chain, chained}
use Rattle.messages.specs.Messages.{Message, start_of, close_of, tag_of, follow, body, begin, messages_in}

-- each segment has a byte, and begins at q and at the end of the one before it, or later
unfoldable pub Apart : ℕ → List Segment → Type 0
Apart q [] = Unit {0}
Apart q (s ∷ ss) = (q ≤ s.start) × (s.start < end_of s) × Apart (end_of s) ss

-- the same for messages
unfoldable pub InOrder : ℕ → List Message → Type 0
InOrder q [] = Unit {0}
InOrder q (m ∷ ms) = (q ≤ start_of m) × (start_of m < close_of m) × InOrder (close_of m) ms

pub apart_none : (q : ℕ) → Apart q []
unfolding Apart
apart_none q = tt

pub apart_weaken : (q q' : ℕ) (ss : List Segment) → q ≤ q' → Apart q' ss → Apart q ss
unfolding Apart
apart_weaken q q' [] h k = tt
apart_weaken q q' (s ∷ ss) h k = (omega (arith, k.0), k.1, k.2)

pub order_weaken : (q q' : ℕ) (ms : List Message) → q ≤ q' → InOrder q' ms → InOrder q ms
unfolding InOrder
order_weaken q q' [] h k = tt
order_weaken q q' (m ∷ ms) h k = (omega (arith, k.0), k.1, k.2)

trim-apart : (y : Syntax) (p : ℕ) (bs : List ℕ) (b : Bool) (us : List Segment) → Apart (p + length bs) us → Apart p (trim y p bs b us)
unfolding trim Apart
trim-apart y p [] b us k = rw (add-zero p) at k
trim-apart y p (x ∷ xs) b us k =
    let z : p + suc (length xs) ≡ suc p + length xs = omega arith in
    go (is_break y x) (trim-apart y (suc p) xs b us (subst (λ (n : ℕ). Apart n us) z k))
  where
    go
        : (c : Bool) → Apart (suc p) (trim y (suc p) xs b us) → Apart p (cond c (trim y (suc p) xs b us) (record { start = p; bytes = x ∷ xs; piece = b } ∷ us))
    go true ih = apart_weaken p (suc p) (trim y (suc p) xs b us) (omega arith) ih
    go false ih = (le_refl p, omega arith, k)

trimmed-apart : (y : Syntax) (p : ℕ) (ss : List Segment) (q : ℕ) → Chain p ss q → Apart p (trimmed y ss)
unfolding Chain trimmed Apart
trimmed-apart y p [] q h = tt
trimmed-apart y p (s ∷ ss) q h =
    apart_weaken p s.start (trim y s.start s.bytes s.piece (trimmed y ss)) (omega (arith, h.0))
    (trim-apart y s.start s.bytes s.piece (trimmed y ss) (trimmed-apart y (end_of s) ss q h.3))

pub segments-apart : (y : Syntax) (p : ℕ) (xs : List ℕ) → Apart p (segments_of y p xs)
segments-apart y p xs = subst (Apart p) (sym (segments_are y p xs)) (trimmed-apart y p _ (p + length xs) (chained y p false xs))

follow-later
    : (q : ℕ) (t : Tag) (s : Segment) (ss : List Segment) → q ≤ s.start → end_of s ≤ last_end (end_of s) ss → q ≤ last_end q (follow t s ss)
unfolding last_end
follow-later q Unh s ss h k = le_refl q
follow-later q Unt s ss h k = omega arith
follow-later q Unz s ss h k = le_refl q
follow-later q Other s ss h k = omega arith

-- a message does not end before its first segment does
body-later : (q : ℕ) (ss : List Segment) → Apart q ss → q ≤ last_end q (body ss)
unfolding Apart body last_end
body-later q [] k = le_refl q
body-later q (s ∷ ss) k = follow-later q (tag_of s.bytes) s (body ss) k.0 (body-later (end_of s) ss k.2)

-- in order after a place, and after the end of the message that is open there
abbrev Ordered : ℕ → List Segment → List Message → Type 0
Ordered q ss ms = InOrder q ms × InOrder (last_end q ss) ms

Ordered_step
    : (q : ℕ) (t : Tag) (s : Segment) (ss : List Segment) (ms : List Message) → q ≤ s.start → s.start < end_of s → end_of s ≤ last_end (end_of s) ss
    → Ordered (end_of s) ss ms → Ordered q (follow t s ss) (begin t (record { first = s; rest = ss }) ms)
unfolding InOrder last_end
Ordered_step q Unh s ss ms h k l i = ((h, omega arith, i.1), (h, omega arith, i.1))
Ordered_step q Unt s ss ms h k l i = (order_weaken q (end_of s) ms (omega arith) i.0, i.0)
Ordered_step q Unz s ss ms h k l i = (order_weaken q (end_of s) ms (omega arith) i.0, order_weaken q (end_of s) ms (omega arith) i.0)
Ordered_step q Other s ss ms h k l i = (order_weaken q (end_of s) ms (omega arith) i.0, i.1)

messages_ordered : (q : ℕ) (ss : List Segment) → Apart q ss → Ordered q (body ss) (messages_in ss)
unfolding Apart InOrder body messages_in
messages_ordered q [] k = (tt, tt)
messages_ordered q (s ∷ ss) k =
    Ordered_step q (tag_of s.bytes) s (body ss) (messages_in ss) k.0 k.1 (body-later (end_of s) ss k.2) (messages_ordered (end_of s) ss k.2)

pub in-order : (q : ℕ) (ss : List Segment) → Apart q ss → InOrder q (messages_in ss)
in-order q ss k = (messages_ordered q ss k).0
