-- What the page check says of a segment: the number of its first fault, or where the components stand that the rules of a message ask for.
use Rattle.std.specs.Prelude.{ℕ, zero, suc, List, Result, Ok, Err}
use Rattle.bytewise.specs.Bytes.{part}
use Rattle.cut.specs.declared.service.Syntax.{Syntax}
use Rattle.element.specs.Components.{component_at}
use Rattle.element.specs.declared.components.Span.{Span}
use Rattle.guide.specs.Page.{Page}
use Rattle.guide.specs.workers.PageFault.{page_fault}
use Rattle.page.specs.declared.places.Places.{Places}

-- a fault; or none, and the places f and t
unfoldable pub examined_by : ℕ → Span → Span → Result Places ℕ
examined_by zero f t = Ok (record { first = f; third = t })
examined_by (suc k) f t = Err (suc k)

-- the segment that runs from start to end in the delivery, against a page: its first fault, or the first component behind its tag and the first of element 3
unfoldable pub examined_of : Syntax → Page → List ℕ → ℕ → ℕ → Result Places ℕ
examined_of y page d start end = examined_by (page_fault y page (part start end d)) (component_at y d start end 1 0) (component_at y d start end 3 0)
