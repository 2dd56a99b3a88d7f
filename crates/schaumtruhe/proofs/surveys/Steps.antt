-- The survey goes from message to message: each step adds its counts, and what is left from its end on makes the whole.
use Prim.Native.Nat.{ℕ, zero, suc, ◌+◌, ◌≤◌, ◌<◌}
use mathlib.Core.Bool.{false}
use mathlib.Core.Path.{◌≡◌, refl, sym, ◌∙◌, ap}
use mathlib.Core.List.{List, []}
use native.Mathlib.Nat.{add-zero}
use native.Mathlib.Omega.{arith}
use lib.ListN.{length, length-append}
use Rattle.cut.specs.declared.service.Syntax.{Syntax}
use Rattle.messages.specs.declared.outer.Outer.TheVariants as outer
use Rattle.cut.specs.Admission.{admission_of, opening_of, segments}
use Rattle.messages.specs.Held.{held, head_outer}
use Rattle.cut.specs.Segments.{Segment, segments_at, last_end}
use Rattle.messages.specs.Messages.{Message, messages_in, messages, outside}
use Rattle.messages.proofs.Finding.{all-rising}
use Rattle.messages.specs.workers.Walks.{left_over}
use Rattle.messages.proofs.Outside.{outside-walk}
use Rattle.messages.proofs.Passing.{Begun, begun, left, none_left}
use Rattle.cut.proofs.Places.{admitted}
use Rattle.verdict.specs.Answers.{told, judged_as}
use Rattle.verdict.specs.Verdicts.{verdict_named}
use Rattle.verdict.specs.declared.answers.Judged.{Judged as JudgedAt}
use Rattle.schaumtruhe.specs.Calls.{judged, only_accepted, accepted, survey_unless, survey_of}
use Rattle.schaumtruhe.specs.workers.Answers.{one_if}
use Rattle.schaumtruhe.proofs.places.Begun.{one_only, one-few, same-verdict, same_end}
use Rattle.std.specs.Prelude.{Some, None, Ok, Err}
use Rattle.schaumtruhe.specs.declared.surveys.Survey.{Survey}

module _ (y : Syntax) (d : List ℕ) where
  abbrev from : ℕ → List Segment
  from at = segments_at y d at

  abbrev among : List Message → ℕ
  among ms = length (accepted y ms)

  -- the counts so far, and what is left from the place `at` on
  pub record Passed (m a o at : ℕ) : Type 0 where
    pub messages-all : m + length (messages_in (from at)) ≡ length (messages y d)
    pub accepts_all : a + among (messages_in (from at)) ≡ among (messages y d)
    pub outside-all : o + length (left_over false (from at)) ≡ length (outside y d)
    pub few : (m ≤ at) × (a ≤ at) × (o ≤ at)

  pub passed_first : 0 ≡ admission_of y d → (p : ℕ) → p ≡ opening_of y d → Passed 0 0 0 p
  unfolding messages outside
  passed_first e p o =
      let all : segments y d ≡ from p = admitted y d (sym e) ∙ ap from (sym o) in
      record {
        messages-all = rw all (omega arith);
        accepts_all = rw all (omega arith);
        outside-all = rw (outside-walk 0 (segments y d) (all-rising y d), all) (omega arith);
        few = (omega arith, omega arith, omega arith);
      }

  module _ (m a o at : ℕ) (p : Passed m a o at) where
    -- the message that begins at the place
    module _ (h : head_outer (from at) ≡ Some outer.Message) (j : JudgedAt)
        (judges : judged_as j ≡ (verdict_named y at (held (from at)), last_end at (held (from at)))) where
      abbrev b : Begun y d at
      b = begun y d at h

      is_one : one_if (told j.verdict) ≡ one_if (judged y b.message)
      is_one = ap one_if (same-verdict y d at h j judges)

      ends : j.end ≡ last_end at (held (from at))
      ends = same_end y d at h j judges

      more_accepts : one_if (told j.verdict) + among (messages_in (from j.end)) ≡ among (messages_in (from at))
      unfolding accepted
      more_accepts =
          let m = b.message in
          let only = only_accepted (judged y m) m in
          let rest = accepted y (messages_in (from (last_end at (held (from at))))) in
          rw (ends, b.messages) (omega (arith, length-append only rest, one_only m (judged y m), is_one))

      more-messages : 1 + length (messages_in (from j.end)) ≡ length (messages_in (from at))
      more-messages = rw (ends, b.messages) (omega arith)

      more-outside : length (left_over false (from j.end)) ≡ length (left_over false (from at))
      more-outside = rw (ends, ← b.outside) refl

      pub message-within : (at < j.end) × (j.end ≤ length d)
      message-within = (omega (arith, ends, b.some), omega (arith, ends, b.fits))

      pub passed_message : Passed (m + 1) (a + one_if (told j.verdict)) o j.end
      passed_message =
          let l = message-within in
          let k : one_if (told j.verdict) ≤ 1 = omega (arith, is_one, one-few (judged y b.message)) in
          record {
            messages-all = omega (arith, p.messages-all, more-messages);
            accepts_all = omega (arith, p.accepts_all, more_accepts);
            outside-all = omega (arith, p.outside-all, more-outside);
            few = (omega (arith, p.few.0, l.0), omega (arith, p.few.1, l.0, k), omega (arith, p.few.2, l.0));
          }

    -- the segment outside that begins at the place
    module _ (e : ℕ) (h : head_outer (from at) ≡ Some (outer.Segment e)) where
      pub outside-within : (at < e) × (e ≤ length d)
      outside-within =
          let l = left y d at e h in
          (l.some, l.fits)

      pub passed-outside : Passed m a (o + 1) e
      passed-outside =
          let l = left y d at e h in
          let k = outside-within in
          record {
            messages-all = rw l.messages at p.messages-all;
            accepts_all = rw l.messages at p.accepts_all;
            outside-all = omega (arith, p.outside-all, ap length l.outside);
            few = (omega (arith, p.few.0, k.0), omega (arith, p.few.1, k.0), omega (arith, p.few.2, k.0));
          }

    -- the answer
    pub passed-all : head_outer (from at) ≡ None → 0 ≡ admission_of y d → Ok (record { messages = m; accepted = a; outside = o }) ≡ survey_of y d
    unfolding survey_of messages_in left_over accepted
    passed-all n e =
        let none : from at ≡ [] = none_left y d at n in
        let ms : m + 0 ≡ length (messages y d) = rw none at p.messages-all in
        let acs : a + 0 ≡ among (messages y d) = rw none at p.accepts_all in
        let os : o + 0 ≡ length (outside y d) = rw none at p.outside-all in
        rw (← e, ← ms, ← acs, ← os, add-zero, add-zero, add-zero)

  module _ (a : ℕ) (admits : a ≡ admission_of y d) where
    refuses_more : (k : ℕ) (s : Survey) → (k ≡ 0 → ⊥) → Err k ≡ survey_unless k s
    refuses_more zero s h = absurd (h refl)
    refuses_more (suc k) s h = refl

    pub survey_refused : (a ≡ 0 → ⊥) → Err a ≡ survey_of y d
    unfolding survey_of
    survey_refused h = rw (← admits) (refuses_more a _ h)
