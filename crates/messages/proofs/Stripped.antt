-- The messages of the usual reading are, places aside, those of the strict reading of the same delivery without the bytes that are skipped.
use Prim.Native.Nat.{ℕ, ◌≤◌}
use mathlib.Core.Path.{◌≡◌, sym, ◌∙◌, ap}
use mathlib.Core.Bool.{false}
use mathlib.Core.List.{List, map}
use lib.ListN.{length}
use Rattle.cut.specs.declared.service.Syntax.{Syntax}
use Rattle.cut.specs.Base.{strictly}
use Rattle.cut.specs.Admission.{limit, segments}
use Rattle.cut.specs.Characters.{has}
use Rattle.cut.proofs.Stripped.{stripped, delivery_is_strict}
use Rattle.cut.proofs.Settings.{without_breaks}
use Rattle.messages.specs.Messages.{Message, messages_in, messages}
use Rattle.messages.proofs.walks.Grouping.{restarted_message, messages_restarted}

-- a message without its places
abbrev pub placeless_message : Message → Message
placeless_message m = restarted_message (λ n. 0) m

module _ (y : Syntax) (d : List ℕ) where
  pub messages_are_strict
      : length (stripped y d) ≤ limit → map placeless_message (messages y d) ≡ map placeless_message (messages (strictly y) (stripped y d))
  unfolding messages
  messages_are_strict h =
      sym (messages_restarted (λ n. 0) (segments y d)) ∙ ap messages_in (delivery_is_strict y d h)
      ∙ messages_restarted (λ n. 0) (segments (strictly y) (stripped y d))

  -- a delivery that holds no CR and no LF holds the same messages in both readings
  pub messages_alike : has 13 d ≡ false → has 10 d ≡ false → messages y d ≡ messages (strictly y) d
  unfolding messages
  messages_alike h k = ap messages_in (without_breaks y d h k)
