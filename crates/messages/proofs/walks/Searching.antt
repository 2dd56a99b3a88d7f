-- The messages that begin at a place, or from a place on, are those of the segments from that place on.
use Rattle.std.specs.Prelude.{None}
use Rattle.messages.specs.Calls.{some_message}
use Rattle.std.specs.Prelude.{None}
use Prim.Native.Nat.{ℕ, suc, ◌≤◌, ◌<◌}
use mathlib.Core.Path.{◌≡◌, refl, sym, ◌∙◌}
use mathlib.Core.Bool.{Bool, true, false}
use mathlib.Core.List.{List, [], ◌∷◌}
use native.Mathlib.Nat.{le_refl}
use native.Mathlib.Omega.{arith}
use lib.Dec.{eqb, leb}
use borrow.Author.Tests.{eq-eqb, ne_eqb, le-leb, leb-true, leb-false, eqb-false}
use Rattle.messages.specs.declared.tags.Tag.{Tag}
use Rattle.messages.specs.declared.tags.Tag.TheVariants.{Unh, Unt, Unz, Other}
use Rattle.cut.specs.Segments.{Segment, end_of, last_end, begins_in, keep_if}
use Rattle.messages.specs.Messages.{Message, start_of, tag_of, body, begin, messages_in}
use Rattle.messages.specs.Calls.{found_at, found_from}
use Rattle.messages.specs.workers.Walks.{head_found, is_unh}
use Rattle.cut.specs.Since.{since}
use Rattle.bytewise.proofs.Booleans.{or_neither}
use Rattle.messages.proofs.walks.Spots.{begin_on, begin-here}
use Rattle.cut.proofs.Starts.{Rising, rising_weaken, since-all}

found_all : (from q : ℕ) (ss : List Segment) → from ≤ q → Rising q ss → found_from from (messages_in ss) ≡ head_found (messages_in ss)
unfolding messages_in found_from head_found Rising
found_all from q [] h k = refl
found_all from q (s ∷ ss) h k = go (tag_of s.bytes) (found_all from (suc s.start) ss (omega (arith, k.0)) k.1)
  where
    fits : from ≤ s.start
    fits = omega (arith, k.0)

    go
        : (t : Tag) → found_from from (messages_in ss) ≡ head_found (messages_in ss)
        → found_from from (begin t (record { first = s; rest = body ss }) (messages_in ss))
        ≡ head_found (begin t (record { first = s; rest = body ss }) (messages_in ss))
    go Unh ih = rw (le-leb _ _ fits)
    go Unt ih = ih
    go Unz ih = ih
    go Other ih = ih

begin_early
    : (from : ℕ) (t : Tag) (m : Message) (ms : List Message) → leb from (start_of m) ≡ false → found_from from (begin t m ms) ≡ found_from from ms
unfolding found_from
begin_early from Unh m ms e = rw e
begin_early from Unt m ms e = refl
begin_early from Unz m ms e = refl
begin_early from Other m ms e = refl

kept : (q : ℕ) (s : Segment) (ss : List Segment) → Rising (suc s.start) ss → leb q s.start ≡ true → since q ss ≡ ss
kept q s ss k e = since-all q ss (rising_weaken q (suc s.start) ss (omega (arith, leb-true q s.start e)) k)

-- the first message from a place on
pub found-since : (from q : ℕ) (ss : List Segment) → Rising q ss → found_from from (messages_in ss) ≡ head_found (messages_in (since from ss))
unfolding messages_in found_from head_found since Rising
found-since from q [] k = refl
found-since from q (s ∷ ss) k = go (leb from s.start) refl (found-since from (suc s.start) ss k.1)
  where
    go
        : (b : Bool) → leb from s.start ≡ b → found_from from (messages_in ss) ≡ head_found (messages_in (since from ss))
        → found_from from (messages_in (s ∷ ss)) ≡ head_found (messages_in (keep_if b s (since from ss)))
    go true e ih = rw (kept from s ss k.1 e) (found_all from s.start (s ∷ ss) (leb-true from s.start e) (le_refl s.start, k.1))
    go false e ih = begin_early from (tag_of s.bytes) (record { first = s; rest = body ss }) (messages_in ss) e ∙ ih

begin_elsewhere
    : (at : ℕ) (t : Tag) (m : Message) (ms : List Message) → (at ≡ start_of m → ⊥) → found_at at (begin t m ms) ≡ found_at at ms
unfolding found_at
begin_elsewhere at Unh m ms n = rw (ne_eqb _ _ n)
begin_elsewhere at Unt m ms n = refl
begin_elsewhere at Unz m ms n = refl
begin_elsewhere at Other m ms n = refl

-- the message at a place is looked for among the segments from that place on
pub found-at-since : (at q : ℕ) (ss : List Segment) → Rising q ss → found_at at (messages_in ss) ≡ found_at at (messages_in (since at ss))
unfolding messages_in found_at since Rising
found-at-since at q [] k = refl
found-at-since at q (s ∷ ss) k = go (leb at s.start) refl (found-at-since at (suc s.start) ss k.1)
  where
    go
        : (b : Bool) → leb at s.start ≡ b → found_at at (messages_in ss) ≡ found_at at (messages_in (since at ss))
        → found_at at (messages_in (s ∷ ss)) ≡ found_at at (messages_in (keep_if b s (since at ss)))
    go true e ih = rw (kept at s ss k.1 e)
    go false e ih =
        begin_elsewhere at (tag_of s.bytes) (record { first = s; rest = body ss }) (messages_in ss) (λ i. omega (arith, leb-false at s.start e)) ∙ ih

-- none begins before the first segment
found-past : (at q : ℕ) (ss : List Segment) → Rising q ss → at < q → found_at at (messages_in ss) ≡ None
unfolding messages_in found_at Rising
found-past at q [] k h = refl
found-past at q (s ∷ ss) k h =
    begin_elsewhere at (tag_of s.bytes) (record { first = s; rest = body ss }) (messages_in ss) (λ i. omega (arith, k.0))
    ∙ found-past at (suc s.start) ss k.1 (omega (arith, k.0))

-- no message begins where no segment does
pub found_nowhere : (at : ℕ) (ss : List Segment) → begins_in at ss ≡ false → found_at at (messages_in ss) ≡ None
unfolding messages_in found_at begins_in
found_nowhere at [] h = refl
found_nowhere at (s ∷ ss) h =
    let n = or_neither (eqb at s.start) (begins_in at ss) h in
    begin_elsewhere at (tag_of s.bytes) (record { first = s; rest = body ss }) (messages_in ss) (eqb-false _ _ n.0) ∙ found_nowhere at ss n.1

module _ (at : ℕ) (s : Segment) (ss : List Segment) (k : Rising (suc at) ss) (e : s.start ≡ at) where
  -- the first of some segments begins a message there
  pub found_first : is_unh (tag_of s.bytes) ≡ true → found_at at (messages_in (s ∷ ss)) ≡ some_message s.start (last_end (end_of s) (body ss))
  unfolding messages_in found_at
  found_first u = rw (begin-here _ _ _ u, eq-eqb _ _ (sym e))

  -- or begins none, and none of those after it begins there
  pub found-other : is_unh (tag_of s.bytes) ≡ false → found_at at (messages_in (s ∷ ss)) ≡ None
  unfolding messages_in
  found-other u = rw (begin_on _ _ _ u) (found-past at (suc at) ss k (le_refl (suc at)))
