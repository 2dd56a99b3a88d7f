-- `print::price_lines::within` meets its contract.
use mir.Syntax.{w64}
use mir.Facts.{to_z-of_z}
use Rattle.print.proofs.Telling.{whole_wrote, part_wrote}
use borrow.Author.Rules.{rules}
use Rattle.print.proofs.price_lines.within.Goals as goal

pub returns-in-None : goal.returns-in-None
returns-in-None c =
    rw c.new.ensures
    (whole_wrote _ _ _ c.requires.1 _ c.requires.0 _ _ _ _ c.put_plain-copied.ensures _ _ (to_z-of_z {w = w64} (search rules))
    (to_z-of_z {w = w64} (search rules)) _ _ c.in-None.is c.put_behind-n.ensures.value c.put_behind-n.ensures.out_after)

pub returns-in-Some : goal.returns-in-Some
returns-in-Some c =
    rw c.new-in-Some.ensures
    (part_wrote _ _ _ c.requires.1 _ c.requires.0 _ _ _ _ c.put_plain-copied.ensures _ _ (to_z-of_z {w = w64} (search rules))
    (to_z-of_z {w = w64} (search rules)) _ c.in-Some.is)
