-- `judge::tags::has_tag` meets its contract: past the table, or the two numbers are compared. Assumes nothing.
use native.Mathlib.Omega.{arith}
use borrow.Author.Tests.{le-ltb}
use mathlib.Core.Path.{◌∙◌}
use Rattle.judge.proofs.tags.Tagged.{tag-past, tag_same}
use Rattle.judge.proofs.tags.has_tag.Goals as goal

pub returns-then-n-rows_of : goal.returns-then-n-rows_of
returns-then-n-rows_of c =
    tag_same c.args.edition c.args.n c.args.tag.now c.told-tag (omega (arith, c.if-n-rows_of.true, c.rows_of.ensures)) c.fits-tag _ _ c.tag_of.ensures
    c.pack.ensures

pub returns-else-n-rows_of : goal.returns-else-n-rows_of
returns-else-n-rows_of c =
    le-ltb _ _ c.if-n-rows_of.false ∙ tag-past c.args.edition c.args.n c.args.tag.now c.told-tag (omega (arith, c.if-n-rows_of.false, c.rows_of.ensures))
