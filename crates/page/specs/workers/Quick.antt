-- What the quick pass tells of a segment that has no fault. No public promise cites these.
use Rattle.std.specs.Prelude.{ℕ, ◌+◌, ◌≡◌, true, false, List, length, get_or}
use Rattle.bytewise.specs.Bytes.{part}
use Rattle.cut.specs.Calls.{cut_at, some_cut}
use Rattle.cut.specs.declared.service.Syntax.{Syntax}
use Rattle.clean.specs.Clean.{allowed_bytes, tagged_bytes}
use Rattle.element.specs.Components.{component_at}
use Rattle.element.specs.Services.{usual_services}
use Rattle.guide.specs.Page.{Page}
use Rattle.guide.specs.workers.PageFault.{page_fault}
use Rattle.page.specs.declared.reads.Reading.{Reading}

-- the segment that begins at the place start begins with a tag and the element separator, and the service characters are the usual ones
pub record Begun (y : Syntax) (d : List ℕ) (start : ℕ) : Type 0 where
  pub services : usual_services y ≡ true
  pub tagged : tagged_bytes y (part start (length d) d) ≡ true
  pub inner : get_or d (start + 3) 0 ≡ y.terminator → ⊥
  pub literal : get_or d (start + 3) 0 ≡ y.release → ⊥

-- the segment that begins at the place start ends at r.end, and has neither 12, 10 nor 11 nor a fault against the page; and where two of its components stand
pub record FaultlessAt (y : Syntax) (page : Page) (d : List ℕ) (start : ℕ) (r : Reading) : Type 0 where
  pub whole : cut_at y d start ≡ some_cut start r.end false
  pub allowed : allowed_bytes (part start r.end d) ≡ true
  pub tagged : tagged_bytes y (part start r.end d) ≡ true
  pub fault : page_fault y page (part start r.end d) ≡ 0
  pub first : r.first ≡ component_at y d start r.end 1 0
  pub third : r.third ≡ component_at y d start r.end 3 0
