-- The service character that comes next, where the bytes are scanned for it.
use Prim.Native.Nat.{ℕ, ◌+◌, ◌-◌, ◌≤◌, ◌<◌}
use mathlib.Core.Path.{◌≡◌}
use mathlib.Core.Bool.{false}
use mathlib.Core.List.{List}
use native.Mathlib.Omega.{arith}
use lib.ListN.{length, get_or}
use Rattle.bytewise.specs.Bytes.{part}
use Rattle.cut.specs.declared.service.Syntax.{Syntax}
use Rattle.element.specs.Elements.{ending_of, stays, component}
use Rattle.element.specs.workers.Scans.{Foremost, Sought}
use Rattle.element.specs.Services.{is_service, Service}
use Rattle.element.specs.declared.ahead.Scan.{Scan}
use Rattle.element.proofs.scan.Extents.{extent-stop, extent_end}
use Rattle.element.proofs.scan.Services.{service-ends}

-- one that stands in the part and is not the release character ends the component that begins at the place a
module _ (y : Syntax) (d : List ℕ) (a limit : ℕ) (fits : limit ≤ length d) (r : Scan) (q : Sought (is_service y) d a r) where
  module _ (stop : ℕ) (e : stop ≡ r.at - 1) (l : stop < limit) (n : get_or d stop 0 ≡ y.release → ⊥) where
    found : Service y d a limit stop
    found =
        let first : Foremost (is_service y) d a stop = rw (← e) at q.first in
        record { passed = record { onward = first.onward; none = first.none }; here = λ k. first.here }

    pub sought_stop : stop ≡ a + length (component y (part a limit d) 0 0)
    sought_stop = extent_end y d a limit _ (extent-stop y d a limit limit (omega arith) stop found l n)

    pub sought_ends : stays (ending_of y false (get_or d stop 0)) ≡ false
    sought_ends = service-ends y _ (found.here l) n
