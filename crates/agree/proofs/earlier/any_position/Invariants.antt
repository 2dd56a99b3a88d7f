-- `agree::earlier::any_position` meets its contract. The loop's invariant: the segments that are left give the answer.
use Rattle.std.proofs.Common.{◌≡◌, ◌-◌}
use Rattle.std.specs.List.{list_any}
use Rattle.cut.specs.Segments.{segments_at}
use Rattle.agree.specs.workers.Parts.{headings_in}
use Rattle.agree.proofs.earlier.any_position.Given as goal

abbrev pub invariant-loop-passed : goal.invariant-loop-passed
invariant-loop-passed g l =
    list_any g.passes (headings_in (l.n - l._passed) (segments_at l.d.syntax l.d.bytes.now l.at))
    ≡ list_any g.passes (headings_in l.n (segments_at l.d.syntax l.d.bytes.now l.start))
