-- `element::marks::differing` meets its contract: the sum of two words without high bits is a word.
use Prim.Native.Nat.{◌*◌, ◌%◌}
use native.Mathlib.Omega.{arith}
use lib.Bits.{xor_lt}
use Rattle.element.proofs.marks.differing.Goals as goal

pub overflow_add-result : goal.overflow_add-result
overflow_add-result c = record { fits = omega (arith, xor_lt 63 c.args.low (0x0101_0101_0101_0101 * (c.args.x % 128)) (omega arith) (omega arith)) }
