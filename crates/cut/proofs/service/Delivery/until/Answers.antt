-- `cut::service::Delivery::until` meets its contract: a beginning is a part from the first byte on, and an end past the row counts as the row's end.
use Prim.Native.Nat.{ℕ}
use mathlib.Core.Path.{◌≡◌, ◌∙◌}
use mathlib.Core.List.{List}
use native.Mathlib.Nat.{sub-zero}
use lib.ListN.{take}
use Rattle.bytewise.specs.Bytes.{part}
use Rattle.bytewise.proofs.Limits.{limited}
use Rattle.cut.proofs.service.Delivery.until.Goals as goal

front-is : (d : List ℕ) (m : ℕ) → take m d ≡ part 0 m d
unfolding part
front-is d m = rw (sub-zero m)

pub returns-clause-bytes : goal.returns-clause-bytes
returns-clause-bytes c = front-is _ _ ∙ limited _ 0 _ _ c.min-end.ensures
