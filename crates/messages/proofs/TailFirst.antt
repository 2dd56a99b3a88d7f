-- The message that a tail begins with: demand 3's "that first message".
use Prim.Native.Nat.{ℕ}
use mathlib.Core.Path.{◌≡◌, sym, ◌∙◌}
use mathlib.Core.List.{List, ◌∷◌}
use Rattle.cut.specs.declared.service.Syntax.{Syntax}
use Rattle.messages.specs.Messages.{Message, start_of, body, messages_in, messages}
use Rattle.cut.specs.Fronts.{Tail}
use Rattle.cut.proofs.Ahead.{first-ahead}
use Rattle.cut.proofs.Fronting.{tail-start}
use Rattle.cut.proofs.Demand3.{tail-segments}
use Rattle.messages.proofs.Demand3.{first_headed}

-- the first message of a delivery that begins with one
pub record Opens (y : Syntax) (tail : List ℕ) : Type 0 where
  pub message : Message
  pub rest : List Message
  pub holds : messages y tail ≡ message ∷ rest
  pub begins : start_of message ≡ 0

pub tail-opens : (y : Syntax) (front tail : List ℕ) → Tail y front tail → Opens y tail
unfolding messages messages_in
tail-opens y front tail t =
    let h = first_headed y front tail t in
    record {
      message = record { first = h.head; rest = body h.rest };
      rest = messages_in h.rest;
      holds = rw (h.same, h.tag);
      begins = (first-ahead y tail 0 h.head h.rest (sym (tail-segments y front tail t) ∙ h.same)).starts ∙ tail-start y front tail t;
    }
