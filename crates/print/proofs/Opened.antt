-- Before the first line all of the report is left.
use Prim.Native.Nat.{ℕ, zero, suc}
use mathlib.Core.Path.{◌≡◌, refl, sym, ap, ◌∙◌}
use mathlib.Core.Bool.{true}
use mathlib.Core.List.{List, [], ◌∷◌, ◌++◌}
use native.Mathlib.Nat.{zero-add}
use native.Mathlib.Omega.{arith}
use lib.ListN.{length}
use Rattle.cut.specs.declared.service.Syntax.{Syntax}
use Rattle.cut.specs.declared.admit.Inadmissible.{Inadmissible}
use Rattle.cut.specs.Admission.{number_of, admission_of, opening_of, segments}
use Rattle.cut.specs.Segments.{segments_at}
use Rattle.cut.proofs.Places.{admitted}
use Rattle.messages.specs.Messages.{messages_in, messages, outside}
use Rattle.messages.proofs.Finding.{all-rising}
use Rattle.messages.proofs.Outside.{outside-walk}
use Rattle.schaumtruhe.specs.declared.reading.Reading.{Reading}
use Rattle.schaumtruhe.specs.declared.surveys.Survey.{Survey}
use Rattle.schaumtruhe.specs.Readings.{used_in}
use Rattle.schaumtruhe.specs.Calls.{accepted, survey_unless, survey_of}
use Rattle.schaumtruhe.proofs.Refusals.{some_reason}
use Rattle.print.specs.declared.state.Counts.{Counts}
use Rattle.print.specs.declared.state.Stage.TheVariants as stage
use Rattle.print.specs.Report.{line_of, lines_from, report_by, report_of}
use Rattle.print.specs.Printing.{last_lines, lines_of, left_from, left_in, left_to, sound}
use Rattle.print.proofs.Sounds.{few-sound}
use Rattle.print.proofs.Walking.{last-same}

abbrev none : ℕ → Counts
none at = record { at = at; messages = 0; accepted = 0; outside = 0 }

none-sound : (at : ℕ) → sound (none at) ≡ true
none-sound at = few-sound (none at) (record { messages = omega arith; accepted = omega arith; outside = omega arith })

refuses_all : (y : Syntax) (d : List ℕ) (n : ℕ) (s : Survey) → (n ≡ 0 → ⊥) → line_of 88 (n ∷ []) ≡ report_by y d (survey_unless n s)
refuses_all y d zero s h = absurd (h refl)
refuses_all y d (suc n) s h = refl

module _ (how : Reading) (d : List ℕ) (y : Syntax) (used : y ≡ used_in how d) (c : Counts) where
  pub opened_refused
      : (e : Inadmissible) → number_of e ≡ admission_of y d → (n : ℕ) → n ≡ number_of e → (at : ℕ) → c ≡ none at
      → (left_to d (record { syntax = y; counts = c; stage = stage.Refused n }) ≡ report_of how d) × (sound c ≡ true)
  unfolding left_to left_in report_of survey_of
  opened_refused e admits n same at k = (rw (← used, ← admits, same) (refuses_all y d (number_of e) _ (some_reason e)), rw k (none-sound at))

  module _ (admits : 0 ≡ admission_of y d) (at : ℕ) (opens : at ≡ opening_of y d) where
    all : segments y d ≡ segments_at y d at
    all = admitted y d (sym admits) ∙ ap (segments_at y d) (sym opens)

    all_left
        : left_from y d (none at)
        ≡ lines_from y 1 (messages y d)
        ++ last_lines y d (length (messages y d)) (length (accepted y (messages y d))) (length (outside y d))
    unfolding left_from lines_of messages outside
    all_left =
        rw (outside-walk 0 (segments y d) (all-rising y d), all, zero-add 1)
        (ap (λ (t : List ℕ). lines_from y 1 (messages_in (segments_at y d at)) ++ t) (last-same y d _ _ _ _ _ _ (zero-add _) (zero-add _) (zero-add _)))

    pub opened-left : c ≡ none at → (left_to d (record { syntax = y; counts = c; stage = stage.Between }) ≡ report_of how d) × (sound c ≡ true)
    unfolding left_to left_in last_lines report_of survey_of
    opened-left k = (rw (← used, ← admits, k) all_left, rw k (none-sound at))
