-- What words of eight bytes tell of a segment without a byte that is not allowed. No public promise cites these.
use Rattle.std.specs.Prelude.{ℕ, ◌+◌, ◌≤◌, ◌<◌, ◌≡◌, true, false, List, length, get_or, eqb}
use Rattle.bytewise.specs.Bytes.{part}
use Rattle.cut.specs.workers.Carrying.{Carries}
use Rattle.cut.specs.declared.service.Syntax.{Syntax}
use Rattle.clean.specs.Clean.{allowed_bytes}
use Rattle.element.specs.Components.{extent_of}
use Rattle.element.specs.workers.Scans.{Scanned}
use Rattle.element.specs.Services.{is_service, is_mark}
use Rattle.page.specs.declared.marks.Ahead.{Ahead}

-- r says of the component that begins at the place a where it ends and how long it is, that its bytes are allowed and end no segment, and what is tested
-- behind the byte that ends it. Not every mark ends something: so r says where the component ends only if a service character stands there
pub record CleanAhead (y : Syntax) (d : List ℕ) (a : ℕ) (r : Ahead) : Type 0 where
  pub inside : r.end < length d
  pub ahead : a ≤ r.end
  pub extent : is_service y (get_or d r.end 0) ≡ true → record { end = r.end; length = r.length } ≡ extent_of y d a (length d)
  pub allowed : allowed_bytes (part a r.end d) ≡ true
  pub carried : Carries y d a r.end
  pub literal : eqb (get_or d r.end 0) y.release ≡ false
  pub onward : r.scan.at ≡ r.end + 1
  pub scanned : Scanned is_mark d r.scan
