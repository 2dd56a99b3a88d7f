-- What the workers of the comparison promise each other.
use Rattle.std.specs.Prelude.{ℕ, Bool, true, cond, not, ◌&&◌, List, Option, Some, None, eqb, leb, ltb}
use Rattle.cut.specs.declared.service.Syntax.{Syntax}
use Rattle.element.specs.Cursors.{step_of}
use Rattle.element.specs.declared.components.Span.{Span}
use Rattle.element.specs.declared.cursor.Visit.{Visit}

-- component c of element e does not stand behind component g of element f
unfoldable pub in_time : ℕ → ℕ → ℕ → ℕ → Bool
in_time e c f g = cond (eqb e f) (leb c g) (ltb e f)

-- ... nor behind the next component of the other segment
abbrev pub not_past : Visit → Option Visit → Bool
not_past u None = true
not_past u (Some v) = in_time u.element u.component v.element v.component

abbrev pub empty_span : Span
empty_span = record { start = 0; end = 0 }

-- what of a component is compared with the other segment's next one v: nothing if it stands behind that one, or if it is of the element x
abbrev pub shown_by : ℕ → Option Visit → Option Visit → Span
shown_by x None v = empty_span
shown_by x (Some u) v = cond (not (eqb u.element x) && not_past u v) (record { start = u.start; end = u.end }) empty_span

-- the next component, after the comparison with v: a component behind v waits
abbrev pub onward_by : Syntax → List ℕ → Option Visit → Option Visit → Option Visit
onward_by y d None v = None
onward_by y d (Some u) v = cond (not_past u v) (step_of y d u.next) (Some u)
