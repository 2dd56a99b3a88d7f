-- What stands outside, in one walk: the state is whether a message is open.
use Prim.Native.Nat.{ℕ, suc, ◌≤◌, ◌<◌}
use mathlib.Core.Path.{◌≡◌, refl, ◌∙◌, ap}
use mathlib.Core.Bool.{Bool, true, false}
use mathlib.Core.List.{List, [], ◌∷◌, ◌++◌}
use native.Mathlib.Nat.{le_refl}
use native.Mathlib.Omega.{arith}
use borrow.Author.Tests.{eq-eqb, ne_eqb}
use Rattle.messages.specs.declared.tags.Tag.{Tag}
use Rattle.messages.specs.declared.tags.Tag.TheVariants.{Unh, Unt, Unz, Other}
use Rattle.cut.specs.Segments.{Segment, begins_in}
use Rattle.messages.specs.Messages.{Message, tag_of, follow, body, begin, messages_in, inside, others, outside_in}
use Rattle.messages.specs.workers.Walks.{left_over}
use Rattle.cut.proofs.Starts.{Rising}

-- each begins at q or later
unfoldable From : ℕ → List Segment → Type 0
From q [] = Unit {0}
From q (s ∷ ss) = (q ≤ s.start) × From q ss

rising-from : (q p : ℕ) (ss : List Segment) → q ≤ p → Rising p ss → From q ss
unfolding From Rising
rising-from q p [] h k = tt
rising-from q p (s ∷ ss) h k = (omega (arith, k.0), rising-from q (suc s.start) ss (omega (arith, k.0)) k.1)

from-append : (q : ℕ) (ss ts : List Segment) → From q ss → From q ts → From q (ss ++ ts)
unfolding From
from-append q [] ts h k = k
from-append q (s ∷ ss) ts h k = (h.0, from-append q ss ts h.1 k)

from-follow : (q : ℕ) (t : Tag) (s : Segment) (ss : List Segment) → q ≤ s.start → From q ss → From q (follow t s ss)
unfolding From
from-follow q Unh s ss h k = tt
from-follow q Unt s ss h k = (h, tt)
from-follow q Unz s ss h k = tt
from-follow q Other s ss h k = (h, k)

from-body : (q : ℕ) (ss : List Segment) → From q ss → From q (body ss)
unfolding From body
from-body q [] k = tt
from-body q (s ∷ ss) k = from-follow q (tag_of s.bytes) s (body ss) k.0 (from-body q ss k.1)

from-begin
    : (q : ℕ) (t : Tag) (s : Segment) (ss : List Segment) (ms : List Message) → q ≤ s.start → From q ss → From q (inside ms)
    → From q (inside (begin t (record { first = s; rest = ss }) ms))
unfolding From inside
from-begin q Unh s ss ms h k l = (h, from-append q ss (inside ms) k l)
from-begin q Unt s ss ms h k l = l
from-begin q Unz s ss ms h k l = l
from-begin q Other s ss ms h k l = l

from-inside : (q : ℕ) (ss : List Segment) → From q ss → From q (inside (messages_in ss))
unfolding From messages_in inside
from-inside q [] k = tt
from-inside q (s ∷ ss) k = from-begin q (tag_of s.bytes) s (body ss) (messages_in ss) k.0 (from-body q ss k.1) (from-inside q ss k.1)

from-begins : (at q : ℕ) (ss : List Segment) → From q ss → at < q → begins_in at ss ≡ false
unfolding From begins_in
from-begins at q [] k h = refl
from-begins at q (s ∷ ss) k h =
    let n : at ≡ s.start → ⊥ = λ e. omega (arith, k.0) in
    rw (ne_eqb _ _ n, from-begins at q ss k.1 h)

-- one that begins before them all makes no difference
others_skip : (s : Segment) (is ss : List Segment) → From (suc s.start) ss → others (s ∷ is) ss ≡ others is ss
unfolding others begins_in From
others_skip s is [] k = refl
others_skip s is (t ∷ ts) k =
    let n : t.start ≡ s.start → ⊥ = λ e. omega (arith, k.0) in
    rw (ne_eqb _ _ n, others_skip s is ts k.1)

-- the first is one of them
others-in : (s : Segment) (is ss : List Segment) → From (suc s.start) ss → others (s ∷ is) (s ∷ ss) ≡ others is ss
unfolding others begins_in
others-in s is ss k = rw (eq-eqb s.start s.start refl) (others_skip s is ss k)

-- the first is none of them
others_out : (s : Segment) (is ss : List Segment) → From (suc s.start) is → others is (s ∷ ss) ≡ s ∷ others is ss
unfolding others
others_out s is ss k = rw (from-begins s.start (suc s.start) is k (le_refl (suc s.start)))

-- what an open message takes
abbrev opened : Bool → List Segment → List Segment
opened true ss = body ss
opened false ss = []

outside_step
    : (t : Tag) (b : Bool) (s : Segment) (ss : List Segment) → From (suc s.start) ss
    → ((b : Bool) → others (opened b ss ++ inside (messages_in ss)) ss ≡ left_over b ss)
    → tag_of s.bytes ≡ t
    → others (opened b (s ∷ ss) ++ inside (messages_in (s ∷ ss))) (s ∷ ss) ≡ left_over b (s ∷ ss)
unfolding body messages_in inside left_over
outside_step Unh true s ss k ih e = rw e (others-in s _ ss k ∙ ih true)
outside_step Unh false s ss k ih e = rw e (others-in s _ ss k ∙ ih true)
outside_step Unt true s ss k ih e = rw e (others-in s _ ss k ∙ ih false)
outside_step Unt false s ss k ih e = rw e (others_out s _ ss (from-inside _ ss k) ∙ ap (λ (ts : List Segment). s ∷ ts) (ih false))
outside_step Unz true s ss k ih e = rw e (others_out s _ ss (from-inside _ ss k) ∙ ap (λ (ts : List Segment). s ∷ ts) (ih false))
outside_step Unz false s ss k ih e = rw e (others_out s _ ss (from-inside _ ss k) ∙ ap (λ (ts : List Segment). s ∷ ts) (ih false))
outside_step Other true s ss k ih e = rw e (others-in s _ ss k ∙ ih true)
outside_step Other false s ss k ih e = rw e (others_out s _ ss (from-inside _ ss k) ∙ ap (λ (ts : List Segment). s ∷ ts) (ih false))

outside_open
    : (q : ℕ) (b : Bool) (ss : List Segment) → Rising q ss → others (opened b ss ++ inside (messages_in ss)) ss ≡ left_over b ss
unfolding Rising others left_over
outside_open q b [] k = refl
outside_open q b (s ∷ ss) k =
    outside_step (tag_of s.bytes) b s ss (rising-from (suc s.start) (suc s.start) ss (le_refl _) k.1)
    (λ b'. outside_open (suc s.start) b' ss k.1) refl

-- the walk leaves out just what is in no message
pub outside-walk : (q : ℕ) (ss : List Segment) → Rising q ss → outside_in ss ≡ left_over false ss
unfolding outside_in
outside-walk q ss k = outside_open q false ss k
