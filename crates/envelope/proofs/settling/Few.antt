-- The segments of a delivery begin within it, and its messages are fewer than its bytes: a count of them has few digits.
use Prim.Native.Nat.{ℕ, suc, ◌+◌, ◌≤◌, ◌<◌, ◌^◌}
use mathlib.Core.Path.{◌≡◌, refl}
use mathlib.Core.Bool.{Bool, true, false}
use mathlib.Core.List.{List, [], ◌∷◌}
use native.Mathlib.Omega.{arith}
use lib.ListN.{length, drop, length-drop}
use lib.Dec.{leb, ltb}
use borrow.Author.Tests.{leb-true, leb-false, ltb-true, ltb-false}
use Rattle.cut.specs.declared.service.Syntax.{Syntax}
use Rattle.cut.specs.Segments.{Segment, segments_at}
use Rattle.cut.specs.Admission.{limit, admission_of, opening_of, segments}
use Rattle.cut.proofs.Starts.{Rising, Below}
use Rattle.cut.proofs.Places.{refused, of_segments}
use Rattle.cut.proofs.Chains.{segments-below}
use Rattle.cut.proofs.Ahead.{none-past}
use Rattle.messages.specs.declared.tags.Tag.{Tag}
use Rattle.messages.specs.declared.tags.Tag.TheVariants.{Unh, Unt, Unz, Other}
use Rattle.messages.specs.Messages.{Message, tag_of, body, begin, messages_in, messages}
use Rattle.messages.proofs.Finding.{all-rising}
use Rattle.envelope.proofs.settling.Rows.{too_long_one}

rising-few : (q b : ℕ) (ss : List Segment) → q ≤ b → Rising q ss → Below b ss → q + length ss ≤ b
unfolding Rising Below
rising-few q b [] l h k = omega arith
rising-few q b (s ∷ ss) l h k = omega (arith, h.0, rising-few (suc s.start) b ss k.0 h.1 k.1)

begin-few : (t : Tag) (m : Message) (ms : List Message) → length (begin t m ms) ≤ suc (length ms)
begin-few Unh m ms = omega arith
begin-few Unt m ms = omega arith
begin-few Unz m ms = omega arith
begin-few Other m ms = omega arith

messages-few : (ss : List Segment) → length (messages_in ss) ≤ length ss
unfolding messages_in
messages-few [] = omega arith
messages-few (s ∷ ss) =
    omega (arith, begin-few (tag_of s.bytes) (record { first = s; rest = body ss }) (messages_in ss), messages-few ss)

module _ (y : Syntax) (d : List ℕ) where
  pub within : (p : ℕ) → Below (length d) (segments_at y d p)
  unfolding Below
  within p = go (leb p (length d)) refl
    where
      go : (b : Bool) → leb p (length d) ≡ b → Below (length d) (segments_at y d p)
      go true e =
          let h = leb-true p (length d) e in
          segments-below y p (drop p d) (length d) (omega (arith, length-drop p d))
      go false e =
          let h = leb-false p (length d) e in
          let n : length d ≤ p = omega arith in
          rw (none-past y d p n) tt

  pub all-within : Below (length d) (segments y d)
  unfolding Below
  all-within = of_segments y d (Below (length d)) tt (within (opening_of y d))

  few-by : (b : Bool) → ltb limit (length d) ≡ b → length (messages y d) ≤ limit
  unfolding messages messages_in
  few-by true e =
      let n : admission_of y d ≡ 0 → ⊥ = λ h. omega (arith, h, too_long_one y d (ltb-true _ _ e)) in
      rw (refused y d n) (omega arith)
  few-by false e =
      omega
      (arith, ltb-false limit (length d) e, messages-few (segments y d), rising-few 0 (length d) (segments y d) (omega arith) (all-rising y d) all-within)

  pub few : length (messages y d) < 10 ^ 15
  few = omega (arith, few-by (ltb limit (length d)) refl)
