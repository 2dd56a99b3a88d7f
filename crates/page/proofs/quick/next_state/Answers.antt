-- `page::quick::next_state` meets its contract: the state by the separator, if there is one.
use mathlib.Core.Path.{◌≡◌, sym, ◌∙◌}
use Rattle.guide.proofs.Options.{some_unless_0, none_unless_0}
use Rattle.page.specs.workers.Cells.{next_of}
use Rattle.page.proofs.cells.Fields.{next-element, next-component, next-none}
use Rattle.page.proofs.quick.next_state.Goals as goal
use Rattle.page.proofs.quick.next_state.Goals.{Joined-x-y, then-x-y, else-x-y+then-x-y-2, else-x-y+else-x-y-2}

state : (c : Joined-x-y) → c.if-x-y.s ≡ next_of c.args.y c.args.x c.args.t
state c = elim c.if-x-y.branch [
  | then-x-y w ↦ w.s-is ∙ next-element _ _ _ w.if-x-y.true
  | else-x-y+then-x-y-2 w ↦ w.s-is ∙ next-component _ _ _ w.if-x-y.false w.if-x-y-2.true
  | else-x-y+else-x-y-2 w ↦ w.s-is ∙ next-none _ _ _ w.if-x-y.false w.if-x-y-2.false
]

pub returns-then-s-eq0 : goal.returns-then-s-eq0
returns-then-s-eq0 c = none_unless_0 _ (sym c.if-s-eq0.true ∙ state (goal.at.returns-then-s-eq0 c).Joined-x-y)

pub returns : goal.returns
returns c = some_unless_0 _ _ (state (goal.at.returns c).Joined-x-y) c.if-s-eq0.false
