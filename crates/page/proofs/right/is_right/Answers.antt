-- `page::right::is_right` meets its contract: a text that its row takes whatever it is, or bytes that stand for themselves.
use mathlib.Core.Bool.{false≢true}
use mathlib.Core.Path.{sym, ◌∙◌}
use native.Mathlib.Omega.{arith}
use Rattle.page.proofs.right.Right.{free-right, bytes_there, right_there}
use Rattle.page.proofs.right.is_right.Goals as goal

pub returns-then-b-a : goal.returns-then-b-a
returns-then-b-a c h count =
    let p = c.requires in
    let q = c.is_free.ensures h _ _ count in
    free-right _ _ _ (omega (arith, count, p.2)) q.0 q.1

pub is_sized-requires : goal.is_sized-requires
is_sized-requires c =
    let p = c.requires in
    (bytes_there c.args.d.syntax _ _ _ _ p c.if-b-a.false, p.2)

pub returns-then-not-is_sized : goal.returns-then-not-is_sized
returns-then-not-is_sized c h count = absurd (false≢true h)

pub returns : goal.returns
returns c h count =
    right_there _ _ _ _ _ c.requires c.if-b-a.false count _ (sym c.is_sized.ensures ∙ c.if-not-is_sized.false)
    (c.is_listed.ensures h)
