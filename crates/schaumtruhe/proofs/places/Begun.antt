-- The message that begins at a place, line breaks aside: its verdict, and what it adds to the accepted ones.
use Prim.Native.Nat.{ℕ, ◌≤◌}
use mathlib.Core.Path.{◌≡◌, refl, ◌∙◌, ap}
use mathlib.Core.List.{List, ◌∷◌}
use native.Mathlib.Omega.{arith}
use lib.ListN.{length}
use Rattle.cut.specs.declared.service.Syntax.{Syntax}
use Rattle.cut.specs.Segments.{segments_at, last_end}
use Rattle.std.specs.Prelude.{Some, Result, Ok, Err, is_ok}
use Rattle.std.specs.Int.{from_bool}
use Rattle.verdict.specs.declared.answers.Accepted.{Accepted}
use Rattle.verdict.specs.declared.answers.Refused.{Refused}
use Rattle.messages.specs.declared.outer.Outer.TheVariants as outer
use Rattle.messages.specs.Held.{held, head_outer}
use Rattle.messages.specs.Messages.{Message}
use Rattle.messages.proofs.Passing.{Begun, begun}
use Rattle.guide.specs.Answers.{accepts, refuses, Verdict as Judged}
use Rattle.guide.specs.workers.Judging.{judge_from}
use Rattle.verdict.specs.Answers.{told, judged_as}
use Rattle.verdict.specs.Verdicts.{verdict_named, named_of, verdict_from, verdict_of}
use Rattle.verdict.specs.declared.answers.Judged.{Judged as JudgedAt}
use Rattle.schaumtruhe.specs.Calls.{judged, only_accepted}
use Rattle.schaumtruhe.specs.workers.Answers.{one_if}

pub one_only : (m : Message) (v : Judged) → length (only_accepted v m) ≡ one_if v
one_only m (accepts n e) = refl
one_only m (refuses k i p n) = refl

pub ok-one : (v : Result Accepted Refused) → from_bool (is_ok v) ≡ one_if (told v)
ok-one (Ok a) = refl
ok-one (Err r) = refl

pub one-few : (v : Judged) → one_if v ≤ 1
one-few (accepts n e) = omega arith
one-few (refuses k i p n) = omega arith

module _ (y : Syntax) (d : List ℕ) (at : ℕ) (h : head_outer (segments_at y d at) ≡ Some outer.Message) (j : JudgedAt)
    (judges : judged_as j ≡ (verdict_named y at (held (segments_at y d at)), last_end at (held (segments_at y d at)))) where
  abbrev b : Begun y d at
  b = begun y d at h

  -- the line breaks before a message make no difference to its verdict
  same_start : verdict_named y at (b.message.first ∷ b.message.rest) ≡ judged y b.message
  unfolding verdict_named named_of verdict_of verdict_from judge_from
  same_start = refl

  pub same-verdict : told j.verdict ≡ judged y (begun y d at h).message
  same-verdict =
      ap (λ (x : Judged × ℕ). x.0) judges ∙ ap (verdict_named y at) b.takes ∙ same_start

  pub same_end : j.end ≡ last_end at (held (segments_at y d at))
  same_end = ap (λ (x : Judged × ℕ). x.1) judges
