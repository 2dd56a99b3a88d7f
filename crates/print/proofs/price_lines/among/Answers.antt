-- `print::price_lines::among` meets its contract.
use mathlib.Core.Path.{refl, sym}
use mir.Syntax.{w64}
use mir.Facts.{to_z-of_z}
use Rattle.print.proofs.Sounds.{wrote_same}
use Rattle.print.proofs.Telling.{among_none, among_wrote}
use borrow.Author.Rules.{rules}
use Rattle.print.proofs.price_lines.among.Goals as goal

pub returns-in_default : goal.returns-in_default
returns-in_default c =
    wrote_same _ _ _ _ _ _ _
    (among_none _ _ _ _ (sym c.in_default.ensures))
    refl c.between.ensures

pub returns : goal.returns
returns c =
    rw c.new.ensures
    (among_wrote _ _ _ c.requires.1 _ c.requires.0 _ _ _ _ _ (sym c.in-Some.ensures)
    (to_z-of_z {w = w64} (search rules)) (to_z-of_z {w = w64} (search rules)) _ _ c.opening-n.ensures.value c.opening-n.ensures.out_after)
