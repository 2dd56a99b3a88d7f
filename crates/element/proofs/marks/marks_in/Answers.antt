-- `element::marks::marks_in` meets its contract, by the law of each byte apart.
use native.Mathlib.Nat.{le_trans}
use native.Mathlib.Omega.{arith}
use lib.Bits.{and_le_l, and_le_r}
use Rattle.bytewise.proofs.Bytewise.{eight-word}
use Rattle.element.proofs.marks.Marks.{mark-flags}
use Rattle.element.proofs.marks.marks_in.Goals as goal

pub differing-requires : goal.differing-requires
differing-requires c = and_le_r c.args.w 0x7f7f_7f7f_7f7f_7f7f

pub differing-requires-2 : goal.differing-requires-2
differing-requires-2 c = and_le_r c.args.w 0x7f7f_7f7f_7f7f_7f7f

pub differing-requires-3 : goal.differing-requires-3
differing-requires-3 c = le_trans (and_le_l _ _) (and_le_r c.args.w 0x7f7f_7f7f_7f7f_7f7f)

pub overflow_add-text : goal.overflow_add-text
overflow_add-text c = record { fits = omega (arith, and_le_r c.args.w 0x7f7f_7f7f_7f7f_7f7f) }

pub overflow_add-delete : goal.overflow_add-delete
overflow_add-delete c = record { fits = omega (arith, and_le_r c.args.w 0x7f7f_7f7f_7f7f_7f7f) }

pub returns : goal.returns
returns c =
    let a = c.args in
    mark-flags a.w _ (eight-word a.w (omega arith)) _ _ _ c.differing.ensures c.differing-2.ensures c.differing-3.ensures
