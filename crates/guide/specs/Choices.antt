-- Choosing by a test, and the first of several numbers of which 0 says "none".
use Rattle.std.specs.Prelude.{ℕ, zero, suc, Bool, true, false}

abbrev pub pickℕ : Bool → ℕ → ℕ → ℕ
pickℕ true a b = a
pickℕ false a b = b

-- a, or b if a is 0
abbrev pub or_else : ℕ → ℕ → ℕ
or_else zero b = b
or_else (suc a) b = suc a
