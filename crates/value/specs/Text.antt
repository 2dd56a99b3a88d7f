-- The decimal text of a number: the program prints amounts so.
use Rattle.std.specs.Prelude.{cond, ℕ, zero, suc, ◌+◌, ◌/◌, ◌%◌, List, [], ◌∷◌, ◌++◌, ltb, ℤ, pos, negsuc}

-- the digits of n without leading zeros, 0 as `0`, for an n of at most k digits
unfoldable pub digits_in : ℕ → ℕ → List ℕ
digits_in zero n = []
digits_in (suc k) n = cond (ltb n 10) ((48 + n) ∷ []) (digits_in k (n / 10) ++ ((48 + n % 10) ∷ []))

-- sign and digits; no i64 has more than nineteen of them
unfoldable pub text_of : ℤ → List ℕ
text_of (pos n) = digits_in 20 n
text_of (negsuc n) = 45 ∷ digits_in 20 (suc n)
