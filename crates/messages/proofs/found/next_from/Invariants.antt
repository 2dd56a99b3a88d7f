-- `messages::found::next_from` meets its contract: what is found from the start is found from here.
use Prim.Native.Nat.{◌-◌}
use mathlib.Core.Path.{◌≡◌}
use lib.ListN.{length}
use Rattle.cut.specs.Segments.{segments_at}
use Rattle.messages.specs.Messages.{messages_in}
use Rattle.messages.specs.workers.Walks.{head_found}
use Rattle.messages.proofs.found.next_from.Given as goal

abbrev pub invariant-loop-start : goal.invariant-loop-start
invariant-loop-start l =
    head_found (messages_in (segments_at l.d.syntax l.d.bytes.now l.from)) ≡ head_found (messages_in (segments_at l.d.syntax l.d.bytes.now l.at))

abbrev pub decreases-loop-start : goal.decreases-loop-start
decreases-loop-start l = length l.d.bytes.now - l.at
