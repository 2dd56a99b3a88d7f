-- `agree::agreement::segments_agree` meets its contract. The loop's invariant: the walk from here on gives the answer.
use mathlib.Core.Path.{◌≡◌}
use Rattle.bytewise.specs.Bytes.{part}
use Rattle.agree.specs.Agreement.{agree_but}
use Rattle.agree.proofs.agreement.Walk.{walked, left}
use Rattle.agree.proofs.agreement.segments_agree.Given as goal

abbrev pub invariant-loop-v : goal.invariant-loop-v
invariant-loop-v l =
    walked l.d.syntax l.d.bytes.now l.skip l.u l.v
    ≡ agree_but l.d.syntax l.skip (part l.fn.a.start l.fn.a.end l.d.bytes.now) (part l.fn.b.start l.fn.b.end l.d.bytes.now)

abbrev pub decreases-loop-v : goal.decreases-loop-v
decreases-loop-v l = left l.d.syntax l.d.bytes.now l.u l.v
