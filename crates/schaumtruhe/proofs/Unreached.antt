-- Item 10: the limit of the LIN nodes is never passed. A message that passed it would have 999,999 segments of four bytes before the one at fault, and
-- a delivery is not that long.
use Prim.Native.Nat.{ℕ, ◌≤◌}
use mathlib.Core.Path.{◌≡◌, ap, subst}
use mathlib.Core.List.{List, Memᴰ}
use native.Mathlib.Omega.{arith}
use lib.ListN.{length}
use lib.Dec.{T}
use Rattle.bytewise.specs.Bytes.{bytes_of, part}
use Rattle.bytewise.proofs.Parts.{length_part}
use Rattle.cut.specs.declared.service.Syntax.{Syntax}
use Rattle.cut.proofs.Lengths.{total, total_within}
use Rattle.messages.specs.Messages.{Message, start_of, close_of, messages}
use Rattle.guide.specs.Accepted.{segments_of}
use Rattle.guide.specs.Refusal.{Refusal}
use Rattle.guide.specs.Answers.{refuses}
use Rattle.guide.specs.Sheet.{is_tag}
use Rattle.guide.proofs.Unreached.{lines_long}
use Rattle.verdict.specs.Named.{edition_of, guide_named, pages_named}
use Rattle.schaumtruhe.specs.Calls.{verdict_at}
use Rattle.schaumtruhe.specs.Demands.{DeliveryRefused, too_long, unusable, other_UNA, Begins, NoMessage, whole_delivery, none_begins}
use Rattle.schaumtruhe.specs.Demands.{VerdictRefused, no_message, of_message}
use Rattle.schaumtruhe.proofs.Demand1.{judge_refuses}
use Rattle.schaumtruhe.proofs.places.Asked.{one-begins}
use Rattle.schaumtruhe.proofs.places.Only.{lies_here}

module _ (y : Syntax) (d : List ℕ) where
  -- a message's segments have together no more bytes than the delivery
  pub message-within : (m : Message) → Memᴰ m (messages y d) → total (segments_of m) ≤ length d
  message-within m here =
      let lies = lies_here y d m here in
      let own = part (start_of m) (close_of m) d in
      omega
      (arith, ap total lies.alone, total_within y (start_of m) own, length_part d (start_of m) (close_of m) lies.fits, lies.fits)

  of_delivery : (k : ℕ) → DeliveryRefused y d k → k ≡ 15 → ⊥
  of_delivery k (too_long l) e = omega (arith, e)
  of_delivery k (unusable l v) e = omega (arith, e)
  of_delivery k (other_UNA l u) e = omega (arith, e)

  none_there : (at k : ℕ) → NoMessage y d at k → k ≡ 15 → ⊥
  none_there at k (whole_delivery r) e = of_delivery k r e
  none_there at k (none_begins a b) e = omega (arith, e)

  -- node n of the guide that a message names is one of LIN
  abbrev Lin : Message → ℕ → Type 0
  Lin m n = T (is_tag (guide_named y m) (bytes_of "LIN") n)

  not-passed : (at k i a n : ℕ) (m : Message) → Begins y d at m → Lin m n → VerdictRefused y d at k i a n → k ≡ 15 → ⊥
  not-passed at k i a n m here lin (no_message w) e = none_there at k w e
  not-passed at k i a n m here lin (of_message o p b r) e =
      let fifteen = subst (λ (x : ℕ). Refusal y (guide_named y o) (pages_named y o) o x i a n) e r in
      let named = subst (λ (x : Message). Lin x n) (one-begins y d at m o here b) lin in
      p.short
      (omega (arith, lines_long y (edition_of y (segments_of o)) (pages_named y o) o i a n fifteen named, message-within o b.member))

  -- judge_at: the message that begins at a place is never refused with 15 at a LIN node of its guide, whatever the delivery and its characters
  pub lines_unreached : (at i a n : ℕ) (m : Message) → Begins y d at m → Lin m n → verdict_at y d at ≡ refuses 15 i a n → ⊥
  lines_unreached at i a n m here lin e = not-passed at 15 i a n m here lin ((judge_refuses y d at 15 i a n).0 e) (omega arith)
