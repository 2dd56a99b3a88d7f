-- `bytewise::eights::first_of` meets its contract: eight clear bits are a byte that is 0.
use native.Mathlib.Omega.{arith}
use lib.Count.{trailing_le}
use Rattle.bytewise.specs.Eights.{first_byte}
use Rattle.bytewise.proofs.Bytewise.{first-bits}
use Rattle.bytewise.proofs.eights.first_of.Goals as goal

pub overflow_cast-result : goal.overflow_cast-result
overflow_cast-result c = record { fits = omega (arith, trailing_le 64 c.args.m) }

pub returns : goal.returns
unfolding first_byte
returns c = first-bits 8 c.args.m
