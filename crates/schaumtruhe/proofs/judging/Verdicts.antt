-- The verdict at a place and the accepted message there: one law for each answer of the workers.
use Prim.Native.Nat.{ℕ, zero, suc, ◌≤◌, ◌<◌}
use mathlib.Core.Path.{◌≡◌, refl, sym, ◌∙◌, ap, ap₂}
use mathlib.Core.Bool.{Bool, true, false, cond}
use mathlib.Core.List.{List}
use native.Mathlib.Omega.{arith}
use lib.ListN.{length}
use Rattle.cut.specs.declared.service.Syntax.{Syntax}
use Rattle.messages.specs.declared.found.Message.{Message as Found}
use Rattle.cut.specs.Admission.{admission_of}
use Rattle.bytewise.specs.Bytes.{part}
use Rattle.cut.specs.Segments as cut
use Rattle.cut.specs.Segments.{segments_at, last_end}
use Rattle.messages.specs.Held.{held}
use Rattle.messages.specs.Messages.{Message, start_of, close_of, messages}
use Rattle.messages.specs.Calls.{is_found, message_at}
use Rattle.guide.specs.Accepted.{segments_of}
use Rattle.guide.specs.Choices.{or_else}
use Rattle.guide.specs.Answers.{accepts, refuses, Verdict as Judged}
use Rattle.guide.proofs.judging.Verdicts.{accepts_refuses}
use Rattle.verdict.specs.Answers.{told, judged_as}
use Rattle.verdict.specs.declared.answers.Judged.{Judged as JudgedAt}
use Rattle.verdict.specs.Verdicts.{verdict_named, named_of, verdict_of}
use Rattle.verdict.specs.declared.answers.Accepted.{Accepted}
use Rattle.verdict.specs.declared.answers.Refused.{Refused}
use Rattle.schaumtruhe.specs.Calls.{beginning_at, nowhere, verdict_at, judged, stands, missing, sheet_by, sheet_in, sheet_unless, sheet_at}
use Rattle.schaumtruhe.specs.workers.Answers.{standing_of, asked}
use Rattle.std.specs.Prelude.{Option, Some, None, Result, Ok, Err}
use Rattle.schaumtruhe.specs.declared.sheets.Sheet.{Sheet as Standing}
use Rattle.schaumtruhe.proofs.places.Found.{Here, here, nowhere-here, Begins, not-begun, is-begun}

abbrev as_sheet : ℕ → ℕ → Result Standing ℕ
as_sheet s e = Ok (record { start = s; end = e })

module _ (y : Syntax) (d : List ℕ) (at : ℕ) where
  abbrev begins : Bool
  begins = is_found (message_at y d at)

  -- the delivery is refused, or no message begins there
  not-asked
      : (a n : ℕ) (b : Bool) → admission_of y d ≡ a → begins ≡ b → n ≡ or_else a (cond b 0 31) → (n ≡ 0 → ⊥)
      → (nowhere n ≡ verdict_at y d at) × (missing n ≡ sheet_at y d at)
  unfolding verdict_at sheet_at
  not-asked zero n true e f k r = absurd (r k)
  not-asked zero n false e f k r = rw (e, not-begun y d at begins refl f, k) (refl, refl)
  not-asked (suc a) n b e f k r = rw (e, k) (refl, refl)

  module _ (n : ℕ) (asks : n ≡ asked y d at) (refused : n ≡ 0 → ⊥) where
    pub none-judged : nowhere n ≡ verdict_at y d at
    none-judged = (not-asked (admission_of y d) n begins refl refl asks refused).0

    pub none-stands : Err n ≡ standing_of (sheet_at y d at)
    none-stands = ap standing_of (not-asked (admission_of y d) n begins refl refl asks refused).1

  -- one does
  both : (a : ℕ) (b : Bool) → 0 ≡ or_else a (cond b 0 31) → (a ≡ 0) × (b ≡ true)
  both zero true k = (refl, refl)
  both zero false k = absurd (omega (arith, k))
  both (suc a) b k = absurd (omega (arith, k))

  module _ (asks : 0 ≡ asked y d at) (j : JudgedAt)
      (judges : judged_as j ≡ (verdict_named y at (held (segments_at y d at)), last_end at (held (segments_at y d at)))) where
    is-admitted : admission_of y d ≡ 0
    is-admitted = (both (admission_of y d) begins asks).0

    abbrev h : Begins y d at
    h = is-begun y d at begins refl (both (admission_of y d) begins asks).1

    is-judged : told j.verdict ≡ judged y h.message
    unfolding verdict_named named_of verdict_of
    is-judged = ap (λ (x : Judged × ℕ). x.0) judges ∙ rw (h.starts, ← h.takes)

    closes : close_of h.message ≡ j.end
    unfolding last_end
    closes = sym (ap (λ (x : Judged × ℕ). x.1) judges ∙ ap (last_end at) h.takes)

    pub message-judged : told j.verdict ≡ verdict_at y d at
    unfolding verdict_at
    message-judged = rw (is-admitted, h.only) is-judged

    pub message-stands : (a : Accepted) → j.verdict ≡ Ok a → Ok (record { start = at; end = j.end }) ≡ standing_of (sheet_at y d at)
    unfolding sheet_at
    message-stands a k = rw (is-admitted, h.only) (go (judged y h.message) (sym is-judged ∙ ap told k))
      where
        go : (v : Judged) → v ≡ told (Ok a) → Ok (record { start = at; end = j.end }) ≡ standing_of (sheet_by v h.message)
        go (accepts n e) l = ap₂ as_sheet (sym h.starts) (sym closes)
        go (refuses k i p n) l = absurd (accepts_refuses (sym l))

    pub message_refused : (r : Refused) → j.verdict ≡ Err r → Err 30 ≡ standing_of (sheet_at y d at)
    unfolding sheet_at
    message_refused r k = rw (is-admitted, h.only) (go (judged y h.message) (sym is-judged ∙ ap told k))
      where
        go : (v : Judged) → v ≡ told (Err r) → Err 30 ≡ standing_of (sheet_by v h.message)
        go (accepts n e) l = absurd (accepts_refuses l)
        go (refuses k i p n) l = refl

-- where a message stands at the place, it stands there by itself
pub record Stands (y : Syntax) (d : List ℕ) (m : Message) : Type 0 where
  pub alone : cut.segments_of y (start_of m) (part (start_of m) (close_of m) d) ≡ segments_of m
  pub some : start_of m < close_of m
  pub fits : close_of m ≤ length d

module _ (y : Syntax) (d : List ℕ) (at : ℕ) (m : Message) where
  by-sheet : (v : Judged) (n : Message) → sheet_by v n ≡ stands m → n ≡ m
  by-sheet (accepts k e) n h = cc
  by-sheet (refuses k i p o) n h =
      let z : ◌≡◌ {A = ℕ} 0 1 = cc in
      absurd (omega arith)

  in_sheet : (s e : ℕ) → Here y d at s e → sheet_in y (beginning_at at (messages y d)) ≡ stands m → Stands y d m
  in_sheet s e k h =
      let q : k.message ≡ m = by-sheet (judged y k.message) k.message (rw k.only at h) in
      let a : start_of m ≡ s = ap start_of (sym q) ∙ k.starts in
      let b : close_of m ≡ e = ap close_of (sym q) ∙ k.closes in
      record {
        alone = ap₂ (λ (i j : ℕ). cut.segments_of y i (part i j d)) a b ∙ (k.alone ∙ ap segments_of q);
        some = omega (arith, a, b, k.some);
        fits = omega (arith, b, k.fits);
      }

  by-found : (f : Option Found) → message_at y d at ≡ f → sheet_in y (beginning_at at (messages y d)) ≡ stands m → Stands y d m
  by-found None e k =
      let w : missing 31 ≡ stands m = rw (nowhere-here y d at e) at k in
      let z : ◌≡◌ {A = ℕ} 0 1 = cc in
      absurd (omega arith)
  by-found (Some f) e k = in_sheet f.start f.end (here y d at f.start f.end e) k

  by_admission : (a : ℕ) → sheet_unless a (sheet_in y (beginning_at at (messages y d))) ≡ stands m → Stands y d m
  by_admission zero h = by-found (message_at y d at) refl h
  by_admission (suc a) h =
      let z : ◌≡◌ {A = ℕ} 0 1 = cc in
      absurd (omega arith)

  pub stands_alone : sheet_at y d at ≡ stands m → Stands y d m
  unfolding sheet_at
  stands_alone h = by_admission (admission_of y d) h
