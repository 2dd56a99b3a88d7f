-- What a whole walk has found behind a UNB: the messages of the delivery, and the first segment outside that is neither the first nor the last.
use Prim.Native.Nat.{ℕ, suc}
use mathlib.Core.Path.{◌≡◌, refl, ◌∙◌, ap}
use mathlib.Core.Bool.{false, false≢true}
use mathlib.Core.List.{List, [], ◌∷◌}
use native.Mathlib.Nat.{le_refl}
use native.Mathlib.Omega.{arith}
use lib.ListN.{length, drop}
use borrow.Author.Tests.{eq-eqb}
use Rattle.std.specs.Prelude.{Some, None}
use Rattle.cut.specs.declared.service.Syntax.{Syntax}
use Rattle.cut.specs.Segments.{Segment, segments_at, begins_in}
use Rattle.cut.specs.Admission.{segments}
use Rattle.cut.proofs.Starts.{Rising, rising_weaken}
use Rattle.cut.proofs.Chains.{segments-rising}
use Rattle.messages.specs.Messages.{messages_in, messages, others, outside}
use Rattle.messages.specs.workers.Walks.{left_over}
use Rattle.messages.proofs.Finding.{all-rising}
use Rattle.messages.proofs.Outside.{outside-walk}
use Rattle.envelope.specs.declared.walking.Walk.{Walk}
use Rattle.envelope.specs.Envelope.{last_of, strays}
use Rattle.envelope.specs.workers.Walk.{opened, last_in, Walked}
use Rattle.envelope.specs.workers.Rows.{whole_in, Opened}
use Rattle.envelope.proofs.walks.Tags.{tag-UNB}
use Rattle.envelope.proofs.walks.Passing.{passed-messages, first_start, passed-stray}

module _ (y : Syntax) (d : List ℕ) (start end : ℕ) (o : Opened y d start end) (w : Walk) (k : Walked y d start end w) where
  abbrev f : Segment
  f = whole_in d start end

  abbrev rest : List Segment
  rest = segments_at y d end

  pub messages-found : w.messages ≡ length (messages y d)
  unfolding messages messages_in
  messages-found =
      ap (λ (v : Walk). v.messages) k.walk ∙ passed-messages (opened start end) rest
      ∙ rw (o.first, tag-UNB f.bytes o.tag) (omega arith)

  rising : Rising (suc start) rest
  rising = rising_weaken (suc start) end rest o.some (segments-rising y end (drop end d))

  outside-first : outside y d ≡ f ∷ left_over false rest
  unfolding outside left_over
  outside-first = outside-walk 0 (segments y d) (all-rising y d) ∙ rw (o.first, tag-UNB f.bytes o.tag)

  strays-rest : strays y d f (last_in d w) ≡ others (f ∷ last_of f rest ∷ []) (left_over false rest)
  unfolding others begins_in
  strays-rest = ap (λ (l : Segment). others (f ∷ l ∷ []) (outside y d)) k.last ∙ rw (outside-first, eq-eqb start start refl)

  stray-found : w.stray ≡ first_start (strays y d f (last_in d w))
  stray-found =
      ap (λ (v : Walk). v.stray) k.walk
      ∙ passed-stray f (opened start end) f rest refl (λ h. absurd (false≢true h)) (le_refl start) rising
      ∙ rw strays-rest

  -- whether there is one
  pub some-stray : (s : Segment) (ss : List Segment) → strays y d f (last_in d w) ≡ s ∷ ss → w.stray ≡ Some s.start
  unfolding first_start
  some-stray s ss e = stray-found ∙ ap first_start e

  pub no_stray : strays y d f (last_in d w) ≡ [] → w.stray ≡ None
  unfolding first_start
  no_stray e = stray-found ∙ ap first_start e
