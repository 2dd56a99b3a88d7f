-- The chunks joined are the report: every line is there, nothing is cut, and it ends.
use Prim.Native.Nat.{ℕ, ◌≤◌, ◌<◌}
use mathlib.Core.Path.{◌≡◌, sym, ap, ◌∙◌, subst}
use mathlib.Core.Bool.{true, true≢false}
use mathlib.Core.List.{List, [], ◌∷◌, ◌++◌, Memᴰ}
use native.Mathlib.Omega.{arith}
use lib.ListN.{length, take, length-append}
use lib.Seq.{length-take-le}
use Rattle.cut.specs.Admission.{admission_of}
use Rattle.messages.specs.Messages.{Message, start_of, messages}
use Rattle.schaumtruhe.specs.declared.reading.Reading.{Reading}
use Rattle.std.specs.Prelude.{Option, Some, Result, Ok, Err}
use Rattle.print.specs.declared.state.Unprinted.{Unprinted}
use Rattle.print.specs.declared.state.Unprinted.TheVariants.{Short, Foreign}
use Rattle.schaumtruhe.specs.Readings.{used_in}
use Rattle.schaumtruhe.specs.Calls.{judged, verdict_at, survey_of}
use Rattle.schaumtruhe.proofs.keeping.Kept.{verdict-here}
use Rattle.print.specs.declared.state.Printer.{Printer}
use Rattle.print.specs.declared.state.Chunk.{Chunk}
use Rattle.print.specs.Report.{line_of, lines_from, envelope_line, report_by, report_of}
use Rattle.print.specs.Printing.{left_to, sound, least, Wrote, Stepped, Run, ends, goes}

module _ (d : List ℕ) where
  -- what steps give up to the end is all that was left
  pub run-left : (p : Printer) (t : List ℕ) → Run d p t → left_to d p ≡ t
  unfolding Stepped
  run-left _ _ (ends p row row' s) = s.0
  run-left _ _ (goes p row row' r t s more) = s.chunk ∙ ap (λ (u : List ℕ). take r.length row' ++ u) (run-left r.next t more)

  -- from the first printer on it is the report
  pub run_report : (how : Reading) (p : Printer) (t : List ℕ) → left_to d p ≡ report_of how d → Run d p t → t ≡ report_of how d
  run_report how p t h r = sym (run-left p t r) ∙ h

  module _ (p : Printer) (row row' : List ℕ) where
    -- from an answer back
    pub step_wrote : (x : Result (Option Chunk) Unprinted) (r : Chunk) → x ≡ Ok (Some r) → Stepped d p row row' x → Wrote d (left_to d p) row row' r
    unfolding Stepped
    step_wrote x r h s = subst (Stepped d p row row') h s

    -- each chunk is some of what is left, so that there are no more steps than bytes
    pub run_ends : (r : Chunk) → length row' ≡ length row → Wrote d (left_to d p) row row' r → length (left_to d r.next) < length (left_to d p)
    run_ends r l s =
        let e = ap length s.chunk ∙ length-append (take r.length row') (left_to d r.next) in
        let n = length-take-le r.length row' (omega (arith, s.fits)) in
        omega (arith, e, n, s.some)

    -- a buffer that is long enough and a printer that was made here are never turned away
    pub never_short : least ≤ length row → Stepped d p row row' (Err Short) → ⊥
    unfolding Stepped
    never_short h s = omega (arith, s.0)

    pub never_foreign : sound p.counts ≡ true → Stepped d p row row' (Err Foreign) → ⊥
    unfolding Stepped
    never_foreign h s = true≢false (sym h ∙ s.0)

-- the last line has survey's counts, the one before it is the envelope's, and a delivery that survey refuses has its number alone
module _ (how : Reading) (d : List ℕ) where
  pub report_counted
      : (m a o : ℕ) → survey_of (used_in how d) d ≡ Ok (record { messages = m; accepted = a; outside = o })
      → report_of how d ≡ lines_from (used_in how d) 1 (messages (used_in how d) d) ++ (envelope_line (used_in how d) d ++ line_of 69 (m ∷ a ∷ o ∷ []))
  unfolding report_of
  report_counted m a o h = ap (report_by (used_in how d) d) h

  pub report_refused : (n : ℕ) → survey_of (used_in how d) d ≡ Err n → report_of how d ≡ line_of 88 (n ∷ [])
  unfolding report_of
  report_refused n h = ap (report_by (used_in how d) d) h

  -- the verdict in the line of a message is what `judge_at` answers where it begins
  pub report_judged
      : admission_of (used_in how d) d ≡ 0 → (m : Message) → Memᴰ m (messages (used_in how d) d)
      → verdict_at (used_in how d) d (start_of m) ≡ judged (used_in how d) m
  report_judged h m i = verdict-here (used_in how d) d h m i
