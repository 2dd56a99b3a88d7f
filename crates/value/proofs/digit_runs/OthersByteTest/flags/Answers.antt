-- `Others::flags` meets its contract, by the law of each byte apart.
use native.Mathlib.Omega.{arith}
use lib.Bits.{and_le_r}
use Rattle.bytewise.proofs.Bytewise.{eight-word}
use Rattle.value.proofs.DigitRuns.{others-flags}
use Rattle.value.proofs.digit_runs.OthersByteTest.flags.Goals as goal

pub overflow_add-above : goal.overflow_add-above
overflow_add-above c = record { fits = omega (arith, and_le_r c.args.w 0x7f7f_7f7f_7f7f_7f7f) }

pub overflow_add-digit : goal.overflow_add-digit
overflow_add-digit c = record { fits = omega (arith, and_le_r c.args.w 0x7f7f_7f7f_7f7f_7f7f) }

pub returns : goal.returns
returns c = others-flags c.args.w _ (eight-word c.args.w (omega arith))
