-- `messages::found::message_end` meets its contract: the end seen from the message's first segment is the end seen from here.
use Prim.Native.Nat.{◌-◌}
use mathlib.Core.Path.{◌≡◌}
use lib.ListN.{length}
use Rattle.cut.specs.Segments.{segments_at, last_end}
use Rattle.messages.specs.Messages.{body}
use Rattle.messages.proofs.found.message_end.Given as goal

abbrev pub invariant-loop-tag : goal.invariant-loop-tag
invariant-loop-tag l =
    last_end l.from (body (segments_at l.d.syntax l.d.bytes.now l.from)) ≡ last_end l.next (body (segments_at l.d.syntax l.d.bytes.now l.next))

abbrev pub decreases-loop-tag : goal.decreases-loop-tag
decreases-loop-tag l = length l.d.bytes.now - l.next
