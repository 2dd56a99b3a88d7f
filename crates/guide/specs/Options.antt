-- Where a definition of the paper gives 0 for none, what the code has in its place.
use Rattle.std.specs.Prelude.{ℕ, zero, suc, Option, Some, None}

-- the number, or none where it is 0
abbrev pub unless_0 : ℕ → Option ℕ
unless_0 zero = None
unless_0 (suc n) = Some (suc n)
