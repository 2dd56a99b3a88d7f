-- `clean::clean::allowed_byte` meets its contract: by the bounds of each arm.
use native.Mathlib.Omega.{arith}
use Rattle.clean.proofs.Laws.{byte_low, byte-text, byte_between, byte_high}
use Rattle.clean.proofs.clean.allowed_byte.Goals as goal

pub returns-in-32-to-126 : goal.returns-in-32-to-126
returns-in-32-to-126 c = byte-text _ (omega arith) (omega arith)

pub returns-in-32-to-126-2 : goal.returns-in-32-to-126-2
returns-in-32-to-126-2 c = byte_high _ (omega arith) (omega arith)

pub returns-in_default : goal.returns-in_default
returns-in_default c = byte_low _ (omega arith)

pub returns-in_default-2 : goal.returns-in_default-2
returns-in_default-2 c = byte_between _ (omega arith) (omega arith)
