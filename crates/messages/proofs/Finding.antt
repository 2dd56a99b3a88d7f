-- The answers of the two calls that find messages, from what their workers answer.
use Rattle.std.specs.Prelude.{None}
use Rattle.messages.specs.Calls.{some_message}
use Rattle.std.specs.Prelude.{None}
use Prim.Native.Nat.{ℕ, suc}
use mathlib.Core.Path.{◌≡◌, refl, sym, ◌∙◌, ap}
use mathlib.Core.Bool.{Bool, true, false}
use mathlib.Core.List.{List}
use native.Mathlib.Omega.{arith}
use lib.ListN.{drop}
use Rattle.cut.specs.declared.service.Syntax.{Syntax}
use Rattle.messages.specs.declared.tags.Tag.{Tag}
use Rattle.cut.specs.Segments.{Segment, end_of, segments_at, last_end}
use Rattle.cut.specs.Admission.{admission_of, opening_of, segments}
use Rattle.messages.specs.Messages.{body, messages_in, messages}
use Rattle.cut.specs.Calls.{begins_segment}
use Rattle.messages.specs.Calls.{is_found, found_at, message_at, found_from, next_message}
use Rattle.messages.specs.workers.Walks.{head_spot, head_found, is_unh}
use Rattle.cut.specs.Since.{since}
use Rattle.cut.proofs.Starts.{Rising, rising_none, rising_weaken}
use Rattle.cut.proofs.Chains.{segments-rising}
use Rattle.cut.proofs.Places.{refused, admitted, of_segments, since-begins, begins-kept}
use Rattle.messages.proofs.walks.Spots.{Spotted, unspotted}
use Rattle.messages.proofs.walks.Searching.{found-since, found-at-since, found_nowhere, found_first, found-other}

module _ (y : Syntax) (d : List ℕ) where
  pub all-rising : Rising 0 (segments y d)
  all-rising = of_segments y d (Rising 0) (rising_none 0) (rising_weaken 0 (opening_of y d) _ (omega arith) (segments-rising y (opening_of y d) _))

  pub next_refused : (from : ℕ) → (admission_of y d ≡ 0 → ⊥) → next_message y d from ≡ None
  unfolding next_message messages messages_in found_from
  next_refused from n = rw (refused y d n)

  pub next-found
      : (from p r : ℕ) → admission_of y d ≡ 0 → p ≡ opening_of y d → since from (segments_at y d p) ≡ segments_at y d r
      → next_message y d from ≡ head_found (messages_in (segments_at y d r))
  unfolding next_message messages
  next-found from p r e o h = rw (admitted y d e, ← o, ← h) (found-since from p _ (segments-rising y p (drop p d)))

  module _ (at : ℕ) where
    pub at-nowhere : begins_segment y d at ≡ false → message_at y d at ≡ None
    unfolding message_at messages begins_segment
    at-nowhere b = found_nowhere at (segments y d) b

    at_list : begins_segment y d at ≡ true → message_at y d at ≡ found_at at (messages_in (segments_at y d at))
    unfolding message_at messages
    at_list b = found-at-since at 0 (segments y d) all-rising ∙ rw (since-begins y d at b)

    pub at_none : begins_segment y d at ≡ true → head_spot (segments_at y d at) ≡ None → message_at y d at ≡ None
    unfolding messages_in found_at
    at_none b h = at_list b ∙ rw (unspotted y d at h)

    module _ (s : ℕ) (t : Tag) (e : ℕ) (b : begins_segment y d at ≡ true) (q : Spotted y d at s t e) where
      here : q.segment.start ≡ at
      here = q.past ∙ begins-kept y d at b

      after_first : Rising (suc at) (segments_at y d e)
      after_first = rising_weaken (suc at) e (segments_at y d e) (omega (arith, q.later, q.some)) (segments-rising y e (drop e d))

      pub at_here : (m : ℕ) → is_unh t ≡ true → m ≡ last_end e (body (segments_at y d e)) → message_at y d at ≡ some_message s m
      at_here m u l =
          let ends : last_end (end_of q.segment) (body (segments_at y d e)) ≡ m =
          ap (λ (n : ℕ). last_end n (body (segments_at y d e))) q.closes ∙ sym l in
          at_list b
          ∙ ap (λ (ss : List Segment). found_at at (messages_in ss)) q.list
          ∙ found_first at q.segment _ after_first here (ap is_unh q.tag ∙ u)
          ∙ (cc)

      pub at_other : is_unh t ≡ false → message_at y d at ≡ None
      at_other u = at_list b ∙ rw q.list (found-other at q.segment _ after_first here (ap is_unh q.tag ∙ u))

      pub at-begins : (b : Bool) → b ≡ is_unh t → b ≡ is_found (message_at y d at)
      at-begins true u = ap is_found (sym (at_here _ (sym u) refl))
      at-begins false u = ap is_found (sym (at_other (sym u)))
